-- What the reading of targets answers, with document 01's number and values for each case, and its outputs.
-- Definitions only.
use Rattle.std.specs.Prelude.{List, [], ◌∷◌, ℕ, Result, Ok, Err}
use Rattle.model.specs.Calls.{Answer, refused, wrote}
use Rattle.model.specs.ReadingCalls.{TargetOutputs}
use Rattle.tables.specs.Refusals.{number_of}
use Rattle.tables.specs.declared.refusal.Refusal.{Refusal}
use Rattle.reading.specs.declared.targets.Rows.{Rows}

-- the rows written to each output, or the refusal's number
abbrev pub answer_of : Result Rows Refusal → Answer
answer_of (Ok n) = wrote (n.targets ∷ n.warnings ∷ [])
answer_of (Err r) = refused (number_of r)

-- the two outputs
abbrev pub outputs : (targets warnings : List ℕ) → TargetOutputs
outputs targets warnings = record { targets = targets; warnings = warnings }
