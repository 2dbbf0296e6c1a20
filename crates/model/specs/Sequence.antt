-- Sequences of reversals: "each reads what the last accepted one wrote"; the set of roads that tells their
-- answers; and the three calls on what they leave. Definitions only.
use Rattle.std.specs.Prelude.{Bool, true, false, ◌||◌, cond, List, [], ◌∷◌, map, ℕ, ◌*◌, eqb, take}
use Rattle.std.proofs.Math.Option.{Option, none, some}
use Rattle.model.specs.Lists.{every}
use Rattle.model.specs.Rows.{word}
use Rattle.model.specs.Tables.{Tables, road_width, junction_width, connection_width, pair_width, lane_width}
use Rattle.model.specs.Tables.{edge_width, roads_of}
use Rattle.model.specs.Calls.{Answer, refused, wrote, Outcome, outcome, RepairOutputs, repair_call, ListOutputs}
use Rattle.model.specs.Calls.{succession_call, gap_call, ReversalOutputs, reversal_lengths, reversal_content}
use Rattle.model.specs.Calls.{reversal_refusal, reversal_call}

-- a reversal call of a sequence: its marks, and six outputs of any content and length
pub record Call : Type 0 where
  pub marks : List ℕ
  pub outs : ReversalOutputs

-- the tables with other rows in place of those that a reversal writes; "a table that a call doesn't write goes
-- on as it was read"
unfoldable pub with_reversed : Tables → ReversalOutputs → Tables
with_reversed t c = record {
  text = t.text;
  roads = c.roads;
  sections = c.sections;
  junctions = t.junctions;
  connections = c.connections;
  pairs = c.pairs;
  lanes = c.lanes;
  edges = c.edges;
}

-- the rows that an accepted call wrote
unfoldable pub reversed_rows : List ℕ → ReversalOutputs → ReversalOutputs
reversed_rows counts o = record {
  roads = take (word counts 0 * road_width) o.roads;
  sections = take (word counts 1) o.sections;
  connections = take (word counts 2 * connection_width) o.connections;
  pairs = take (word counts 3 * pair_width) o.pairs;
  lanes = take (word counts 4 * lane_width) o.lanes;
  edges = take (word counts 5 * edge_width) o.edges;
}

-- "Each reads what the last accepted one wrote, at first the map before repair"
abbrev pub next : Tables → Answer → ReversalOutputs → Tables
next t (refused k) o = t
next t (wrote counts) o = with_reversed t (reversed_rows counts o)

-- the tables after a call
unfoldable pub after : Tables → Call → Tables
after t c = next t (reversal_call t c.marks c.outs).answer (reversal_call t c.marks c.outs).outs

-- the tables after a sequence of calls
abbrev pub run : Tables → List Call → Tables
run t [] = t
run t (c ∷ cs) = run (after t c) cs

-- what each call of the sequence answers
abbrev pub answers : Tables → List Call → List Answer
answers t [] = []
answers t (c ∷ cs) = (reversal_call t c.marks c.outs).answer ∷ answers (after t c) cs

-- ---- "a set of roads, empty at first": a mark for each road
abbrev pub empty_set : Tables → List ℕ
empty_set t = map (λ r. 0) (roads_of t)

-- "puts in each marked road, or takes it out if it is there"
abbrev pub toggled_mark : ℕ → ℕ → ℕ
toggled_mark s k = cond (eqb k 1) (cond (eqb s 1) 0 1) s

-- the set after a reversal by the marks
abbrev pub toggled_marks : List ℕ → List ℕ → List ℕ
toggled_marks [] ks = []
toggled_marks (s ∷ ss) [] = s ∷ ss
toggled_marks (s ∷ ss) (k ∷ ks) = toggled_mark s k ∷ toggled_marks ss ks

-- is no road in the set?
abbrev pub is_empty : List ℕ → Bool
is_empty set = every (eqb 0) set

-- the tables under the rules of reversal, with the set as marks
unfoldable pub reversed_once_by : List ℕ → Tables → Tables
reversed_once_by set t = with_reversed t (reversal_content t set)

-- "the map before repair reversed by the set"; "an empty set changes nothing"
unfoldable pub reversed_by : List ℕ → Tables → Tables
reversed_by set t = cond (is_empty set) t (reversed_once_by set t)

-- "A reversal that the rules of refusal below refuse .. leaves the set; any other puts in each marked road, or
-- takes it out"
abbrev pub set_by : Option ℕ → List ℕ → List ℕ → List ℕ
set_by (some k) set marks = set
set_by none set marks = toggled_marks set marks

-- the set after one reversal, "fed each reversal's marks and output lengths alone"
unfoldable pub fed : Tables → List ℕ → List ℕ → List ℕ → List ℕ
fed t set marks lengths = set_by (reversal_refusal (reversed_by set t) marks lengths) set marks

-- the set after a sequence
abbrev pub set_after : Tables → List ℕ → List Call → List ℕ
set_after t set [] = set
set_after t set (c ∷ cs) = set_after t (fed t set c.marks (reversal_lengths c.outs)) cs

-- what the set tells that each call answers: the reversal's answer on the first map reversed by the set so far
abbrev pub answers_by_set : Tables → List ℕ → List Call → List Answer
answers_by_set t set [] = []
answers_by_set t set (c ∷ cs) =
    (reversal_call (reversed_by set t) c.marks c.outs).answer
    ∷ answers_by_set t (fed t set c.marks (reversal_lengths c.outs)) cs

-- is a call accepted? is any of a sequence?
abbrev pub is_accepted : Answer → Bool
is_accepted (refused k) = false
is_accepted (wrote counts) = true

abbrev pub any_accepted : List Answer → Bool
any_accepted [] = false
any_accepted (a ∷ more) = is_accepted a || any_accepted more

-- the roads chosen an odd number of times in the calls that were accepted
abbrev pub odd_marks : List ℕ → List Answer → List Call → List ℕ
odd_marks set more [] = set
odd_marks set [] (c ∷ cs) = set
odd_marks set (a ∷ more) (c ∷ cs) = odd_marks (cond (is_accepted a) (toggled_marks set c.marks) set) more cs

-- ---- repair, succession and the gap check on one map, each with outputs of its own
pub record Buffers : Type 0 where
  pub for_repair : RepairOutputs
  pub for_lists : ListOutputs
  pub for_gaps : List ℕ

-- What they come to. "A refusal is the same by its number, and after one by succession there are no lists and
-- the gap check isn't called."
pub data Found : Type 0 where
  -- repair's refusal
  no_repair : ℕ → Found
  -- the rows that repair wrote, and succession's refusal
  no_lists : List ℕ → ℕ → Found
  -- the rows that repair wrote, succession's outcome and the gap check's
  lists : List ℕ → Outcome ListOutputs → Outcome (List ℕ) → Found

-- the tables with the rows that repair wrote
unfoldable pub with_repaired : Tables → List ℕ → RepairOutputs → Tables
with_repaired t counts o = record {
  text = t.text;
  roads = take (word counts 0 * road_width) o.roads;
  sections = t.sections;
  junctions = take (word counts 1 * junction_width) o.junctions;
  connections = take (word counts 2 * connection_width) o.connections;
  pairs = take (word counts 3 * pair_width) o.pairs;
  lanes = t.lanes;
  edges = t.edges;
}

-- q: the outputs
module _ (q : Buffers) where
  -- the gap check on the lists that succession wrote
  abbrev pub by_lists : List ℕ → Tables → Answer → ListOutputs → Found
  by_lists cs t (refused k) o = no_lists cs k
  by_lists cs t (wrote counts) o = lists cs (outcome (wrote counts) o)
      (gap_call t (take (word counts 0) o.successor_offsets) (take (word counts 1) o.successor_ids) q.for_gaps)

  -- succession on the tables that repair left
  unfoldable pub from_repaired : List ℕ → Tables → Found
  from_repaired cs t = by_lists cs t (succession_call t q.for_lists).answer (succession_call t q.for_lists).outs

  abbrev pub by_repair : Tables → Answer → RepairOutputs → Found
  by_repair t (refused k) o = no_repair k
  by_repair t (wrote counts) o = from_repaired counts (with_repaired t counts o)

  -- REPAIR, SUCCESSION AND GAP CHECK, one after the other
  unfoldable pub found : Tables → Found
  found t = by_repair t (repair_call t q.for_repair).answer (repair_call t q.for_repair).outs
