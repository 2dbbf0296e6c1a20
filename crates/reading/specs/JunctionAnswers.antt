-- What the reading of junctions answers, with document 01's number and values for each case, and its outputs.
-- Definitions only.
use Rattle.std.specs.Prelude.{◌≡◌, List, [], ◌∷◌, ℕ, ◌*◌, Result, Ok, Err}
use Rattle.model.specs.Calls.{Answer, refused, wrote}
use Rattle.model.specs.ReadingCalls as model
use Rattle.tables.specs.Refusals.{number_of}
use Rattle.tables.specs.declared.refusal.Refusal.{Refusal}
use Rattle.reading.specs.declared.junctions.JunctionOutputs.{JunctionOutputs}
use Rattle.reading.specs.declared.junctions.Rows.{Rows}

-- the rows written to each output, or the refusal's number
abbrev pub answer_of : Result Rows Refusal → Answer
answer_of (Ok n) = wrote (n.junctions ∷ n.connections ∷ n.pairs ∷ n.warnings ∷ [])
answer_of (Err r) = refused (number_of r)

-- how many words so many rows have
abbrev pub words_of : Rows → List ℕ
words_of n = n.junctions * 5 ∷ n.connections * 7 ∷ n.pairs * 2 ∷ n.warnings * 4 ∷ []

-- the four outputs
abbrev pub outputs : (junctions connections pairs warnings : List ℕ) → model.JunctionOutputs
outputs junctions connections pairs warnings =
    record { junctions = junctions; connections = connections; pairs = pairs; warnings = warnings }

abbrev pub outputs_of : JunctionOutputs → model.JunctionOutputs
outputs_of out = outputs out.junctions.now out.connections.now out.pairs.now out.warnings.now

-- each is still the slice that was lent
abbrev pub SameOutputs : (old new : JunctionOutputs) → Type 0
SameOutputs old new = (new.junctions.ghost_name ≡ old.junctions.ghost_name)
    × (new.connections.ghost_name ≡ old.connections.ghost_name) × (new.pairs.ghost_name ≡ old.pairs.ghost_name)
    × (new.warnings.ghost_name ≡ old.warnings.ghost_name)
