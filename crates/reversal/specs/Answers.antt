-- The answer of reversal, and its outputs as lent or as left. Definitions only.
use Rattle.std.specs.Prelude.{ℕ, Bool, ◌&&◌, leb, List, [], ◌∷◌, ◌≡◌, Float, Result, Ok, Err, length}
use Rattle.model.specs.Calls.{Answer, refused, wrote}
use Rattle.model.specs.Calls as calls
use Rattle.tables.specs.Refusals.{number_of}
use Rattle.tables.specs.declared.refusal.Refusal.{Refusal}
use Rattle.reversal.specs.declared.call.Counts.{Counts}
use Rattle.reversal.specs.declared.call.ReversalOutputs.{ReversalOutputs}

-- the rows written to each output, or the refusal's number
abbrev pub answer_of : Result Counts Refusal → Answer
answer_of (Ok n) = wrote (n.roads ∷ n.sections ∷ n.connections ∷ n.pairs ∷ n.lanes ∷ n.edges ∷ [])
answer_of (Err r) = refused (number_of r)

-- six tables, or outputs
abbrev pub outputs : (roads sections connections pairs lanes : List ℕ) → List Float → calls.ReversalOutputs
outputs roads sections connections pairs lanes edges =
    record
    { roads = roads; sections = sections; connections = connections; pairs = pairs; lanes = lanes; edges = edges }

-- what the outputs hold
abbrev pub outputs_of : ReversalOutputs → calls.ReversalOutputs
outputs_of o = outputs o.roads.now o.sections.now o.connections.now o.pairs.now o.lanes.now o.edges.now

-- each output is still the slice that was lent
pub record SameOutputs (old new : ReversalOutputs) : Type 0 where
  pub roads : new.roads.ghost_name ≡ old.roads.ghost_name
  pub sections : new.sections.ghost_name ≡ old.sections.ghost_name
  pub connections : new.connections.ghost_name ≡ old.connections.ghost_name
  pub pairs : new.pairs.ghost_name ≡ old.pairs.ghost_name
  pub lanes : new.lanes.ghost_name ≡ old.lanes.ghost_name
  pub edges : new.edges.ghost_name ≡ old.edges.ghost_name

-- each output is as long as the table whose rows it gets
abbrev pub long_enough : (tables outs : calls.ReversalOutputs) → Bool
long_enough t o =
    leb (length t.roads) (length o.roads) && leb (length t.sections) (length o.sections)
    && leb (length t.connections) (length o.connections) && leb (length t.pairs) (length o.pairs)
    && leb (length t.lanes) (length o.lanes) && leb (length t.edges) (length o.edges)
