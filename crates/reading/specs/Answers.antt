-- What the reading of lanes and the length check answer, with document 01's number and values for each case.
-- Definitions only.
use Rattle.std.specs.Prelude.{Float, Option, Some, None, Result, Ok, Err, [], ◌∷◌, ℕ}
use Rattle.model.specs.Calls.{Answer, refused, wrote}
use Rattle.model.specs.Length.{Checked, fine, reported, uneven}
use Rattle.tables.specs.Refusals.{number_of}
use Rattle.tables.specs.declared.refusal.Refusal.{Refusal}
use Rattle.reading.specs.declared.length.Uneven.{Uneven}

-- ---- lanes: the rows written, or the refusal's number
abbrev pub answer_of : Result ℕ Refusal → Answer
answer_of (Ok n) = wrote (n ∷ [])
answer_of (Err r) = refused (number_of r)

-- ---- the length check: nothing to report, the sum that is reported, or 16
abbrev pub checked_of : Result (Option Float) Uneven → Checked
checked_of (Ok None) = fine
checked_of (Ok (Some sum)) = reported sum
checked_of (Err u) = uneven 16
