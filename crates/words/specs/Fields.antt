-- Fields of rows as the code has them, and as the model has them. Definitions only.
use Rattle.std.proofs.Math.Option as maths
use Rattle.std.specs.Prelude.{Option, Some, None, ℕ}
use Rattle.model.specs.Records as records
use Rattle.words.specs.Name.{place_of}
use Rattle.words.specs.declared.kinds.JunctionKind.{JunctionKind}
use Rattle.words.specs.declared.kinds.JunctionKind.TheVariants.{Common, Direct, Virtual}
use Rattle.words.specs.declared.target.Target.{Target}

-- a number that may be missing
abbrev pub number_read : Option ℕ → maths.Option ℕ
number_read None = maths.none
number_read (Some n) = maths.some n

-- a target that may be absent
abbrev pub target_read : Option Target → maths.Option records.Target
target_read None = maths.none
target_read (Some t) = maths.some (record {
  is_junction = t.is_junction;
  name = place_of t.name;
  contact = t.contact;
  given = t.given;
  along = t.along;
})

-- a junction's kind
abbrev pub junction_kind : JunctionKind → records.JunctionKind
junction_kind Common = records.common
junction_kind Direct = records.direct
junction_kind Virtual = records.virtual
