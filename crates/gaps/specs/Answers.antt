-- The answer of the gap check as document 01's. Definitions only.
use Rattle.std.specs.Prelude.{[], ◌∷◌, ℕ, Result, Ok, Err}
use Rattle.model.specs.Calls.{Answer, refused, wrote}
use Rattle.tables.specs.Refusals.{number_of}
use Rattle.tables.specs.declared.refusal.Refusal.{Refusal}

-- the rows written, or the refusal's number
abbrev pub answer_of : Result ℕ Refusal → Answer
answer_of (Ok n) = wrote (n ∷ [])
answer_of (Err r) = refused (number_of r)
