-- A run of the code that takes entries in. Definitions only.
use Rattle.std.specs.Prelude.{◌≡◌, List}
use Rattle.model.specs.Succession.{Entry}
use Rattle.succession.specs.declared.entries.Run.{Run}
use Rattle.succession.specs.ByRow.{Took}

-- the run that was lent, of the same lane
pub record SameRun (old new : Run) : Type 0 where
  pub lent : new.words.ghost_name ≡ old.words.ghost_name
  pub both : new.both ≡ old.both

-- the entries taken in one by one
pub record Grown (es : List Entry) (old new : Run) : Type 0 where
  pub took : Took old.both old.len es old.words.now new.words.now new.len
  pub same : SameRun old new
