use Rattle.repair.specs.Laying.{Laid}
use Rattle.repair.specs.Ready.{pairs_before}
use Rattle.repair.specs.Now.{row_connection, run}
use Rattle.repair.specs.declared.laying.Pile.{Pile}
use Rattle.model.specs.Tables.{Tables}
use Rattle.words.specs.Map.{map_read}
use Rattle.std.proofs.Common.{ℕ, ◌≡◌, ◌+◌}
use Rattle.repair.proofs.laying.Pile.put_own.Given as goal

-- before turn i the first i connections are laid
pub record Held (t : Tables) (first i : ℕ) (before after : Pile) : Type 0 where
  pub rows : after.connections.rows ≡ before.connections.rows + i
  pub counted : after.pairs.rows + pairs_before t.connections first
      ≡ before.pairs.rows + pairs_before t.connections (first + i)
  pub laid : Laid (run (row_connection t) first i) before after

abbrev pub invariant-loop-i : goal.invariant-loop-i
invariant-loop-i l = Held (map_read l.junction.reads.map) l.junction.first l.i l.initial.self l.self
