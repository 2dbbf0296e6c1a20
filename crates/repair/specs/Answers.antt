-- The call's answer, with document 01's number and values for each of its cases, and its outputs. Definitions only.
use Rattle.std.specs.Prelude.{◌≡◌, Result, Ok, Err, List, [], ◌∷◌, ℕ}
use Rattle.model.specs.Calls.{Answer, RepairOutputs, refused, wrote}
use Rattle.model.specs.Tables.{Tables}
use Rattle.tables.specs.Refusals.{number_of}
use Rattle.tables.specs.declared.refusal.Refusal.{Refusal}
use Rattle.repair.specs.Along.{roads_now_words}
use Rattle.repair.specs.Laying.{laid_words}
use Rattle.repair.specs.declared.call.RepairOutputs.{RepairOutputs as Lent}
use Rattle.repair.specs.declared.call.Rows.{Rows}
use Rattle.repair.specs.declared.junctions.State.{State}

-- the rows written to each output, or the refusal's number
abbrev pub answer_of : Result Rows Refusal → Answer
answer_of (Ok n) = wrote (n.roads ∷ n.junctions ∷ n.connections ∷ n.pairs ∷ n.warnings ∷ [])
answer_of (Err r) = refused (number_of r)

-- five outputs
abbrev pub outputs : (roads junctions connections pairs warnings : List ℕ) → RepairOutputs
outputs roads junctions connections pairs warnings =
    record { roads = roads; junctions = junctions; connections = connections; pairs = pairs; warnings = warnings }

-- those that are lent, as they are now
abbrev pub outputs_of : Lent → RepairOutputs
outputs_of o = outputs o.roads.now o.junctions.now o.connections.now o.pairs.now o.warnings.now

-- each is the slice that was lent
abbrev pub SameOutputs : Lent → Lent → Type 0
SameOutputs a b =
    (b.roads.ghost_name ≡ a.roads.ghost_name) × (b.junctions.ghost_name ≡ a.junctions.ghost_name)
    × (b.connections.ghost_name ≡ a.connections.ghost_name) × (b.pairs.ghost_name ≡ a.pairs.ghost_name)
    × (b.warnings.ghost_name ≡ a.warnings.ghost_name)

-- what is at hand to be written: the roads as their ends say, and of the other arrays the rows that there are
abbrev pub content_now : Tables → State → RepairOutputs
content_now t s =
    outputs (roads_now_words t.roads t.junctions s.ends.words) (laid_words s.junctions) (laid_words s.pile.connections)
    (laid_words s.pile.pairs) (laid_words s.warnings)
