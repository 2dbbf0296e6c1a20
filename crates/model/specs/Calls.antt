-- "Each call's whole outcome": its answer, and every output after it. Definitions only.
use Rattle.std.specs.Prelude.{Bool, ◌&&◌, cond, List, [], ◌∷◌, ◌++◌, map, ℕ, suc, ◌/◌, Float, length}
use Rattle.std.proofs.Math.Option.{Option, none, some}
use Rattle.model.specs.Lists.{gather}
use Rattle.model.specs.Records.{Span, Road, Map}
use Rattle.model.specs.Repair.{repair, warnings, Warning}
use Rattle.model.specs.Succession.{successor_lists, predecessor_lists}
use Rattle.model.specs.Lookup.{offsets_from, packed, lists_in}
use Rattle.model.specs.Gaps.{GapRow, link_gaps}
use Rattle.model.specs.Reversal.{reverse_map, reverse_edged, marked}
use Rattle.model.specs.Rows.{written}
use Rattle.model.specs.Tables.{Tables, road_width, junction_width, connection_width, pair_width, lane_width}
use Rattle.model.specs.Tables.{edge_width, bit, roads_of, map_of, edged_lanes_of, road_words, section_words}
use Rattle.model.specs.Tables.{junction_words, connection_words, pair_words, lane_words, edge_words}
use Rattle.model.specs.Rules.{Rule, rule, first_broken, fits, same, map_sized, lanes_sized, edges_sized}
use Rattle.model.specs.Rules.{lists_sized, map_worded, lanes_worded, roads_once, sections_fit, connections_fit}
use Rattle.model.specs.Rules.{identities_once, lanes_listed, keys_once, edges_fit, lists_fit, marks_fit}
use Rattle.model.specs.Rules.{numbers_turn, one_ended}

-- "An accepted call returns the rows written to each output"; "a refusal returns its number alone"
pub data Answer : Type 0 where
  refused : ℕ → Answer
  wrote : List ℕ → Answer

-- an answer, and every output after the call; O has a list for each output
pub record Outcome (O : Type 0) : Type 0 where
  pub answer : Answer
  pub outs : O

-- an outcome from its two parts
abbrev pub outcome : {O : Type 0} → Answer → O → Outcome O
outcome a o = record { answer = a; outs = o }

-- a refusal "changes no lent word"; where there is none, the outputs are the new ones, with the counts returned
abbrev pub settled : {O : Type 0} → Option ℕ → List ℕ → O → O → Outcome O
settled (some k) counts new old = record { answer = refused k; outs = old }
settled none counts new old = record { answer = wrote counts; outs = new }

-- 1 to 5, where 1 and 2 look at the tables that the call reads
unfoldable pub rules_to5 : Bool → Bool → Tables → List Rule
rules_to5 sizes words t =
    rule 1 sizes ∷ rule 2 words ∷ rule 3 (roads_once t) ∷ rule 4 (sections_fit t) ∷ rule 5 (connections_fit t) ∷ []

-- 6 to 8
unfoldable pub lane_rules : Tables → List Rule
lane_rules t = rule 6 (identities_once t) ∷ rule 7 (lanes_listed t) ∷ rule 8 (keys_once t) ∷ []

-- 9 an output shorter than its content; both given by their lengths. It comes after all others
abbrev pub long_enough : List ℕ → List ℕ → List Rule
long_enough content outs = rule 9 (fits content outs) ∷ []

-- how a call's outputs, and content for them, are measured and written
pub record Writing (O : Type 0) : Type 0 where
  -- each one's length in words
  pub lengths : O → List ℕ
  -- and in rows
  pub rows : O → List ℕ
  -- content written to outputs: each begins with its content, and goes on as it was
  pub put : (content outs : O) → O

-- of a call with one output, a table with rows of w words
abbrev pub table_writing : ℕ → Writing (List ℕ)
table_writing w = record { lengths = λ o. length o ∷ []; rows = λ o. length o / w ∷ []; put = written }

-- A CALL'S WHOLE OUTCOME, from its rules but 9, what it has to write, and the outputs as lent: refused by the first
-- rule that is broken, 9 the last of them; or the content is written, and its rows are counted
abbrev pub called : {O : Type 0} → Writing O → List Rule → (content outs : O) → Outcome O
called w rules c o =
    settled (first_broken (rules ++ long_enough (w.lengths c) (w.lengths o))) (w.rows c) (w.put c o) o

-- content written, or 9: what is left of a call when its other rules have passed
abbrev pub written_or9 : {O : Type 0} → Writing O → (content outs : O) → Outcome O
written_or9 w c o = called w [] c o

-- ---- Repair
-- "Repair writes roads, junctions, connections, pairs and warnings"
pub record RepairOutputs : Type 0 where
  pub roads : List ℕ
  pub junctions : List ℕ
  pub connections : List ℕ
  pub pairs : List ℕ
  pub warnings : List ℕ

-- how many words warning rows have
abbrev pub warning_width : ℕ
warning_width = 4

-- the outputs' lengths in words
unfoldable pub repair_lengths : RepairOutputs → List ℕ
repair_lengths o =
    length o.roads ∷ length o.junctions ∷ length o.connections ∷ length o.pairs
    ∷ length o.warnings ∷ []

-- how many rows that is
unfoldable pub repair_counts : RepairOutputs → List ℕ
repair_counts o =
    length o.roads / road_width ∷ length o.junctions / junction_width
    ∷ length o.connections / connection_width
    ∷ length o.pairs / pair_width ∷ length o.warnings / warning_width ∷ []

-- the outputs with content c written to them
unfoldable pub put_repaired : RepairOutputs → RepairOutputs → RepairOutputs
put_repaired c o = record {
  roads = written c.roads o.roads;
  junctions = written c.junctions o.junctions;
  connections = written c.connections o.connections;
  pairs = written c.pairs o.pairs;
  warnings = written c.warnings o.warnings;
}

abbrev pub repair_writing : Writing RepairOutputs
repair_writing = record { lengths = repair_lengths; rows = repair_counts; put = put_repaired }

-- the row of the road of that name
abbrev pub row_named : (Span → Span → Bool) → List Road → Span → ℕ
row_named alike [] n = 0
row_named alike (r ∷ rs) n = cond (alike r.name n) 0 (suc (row_named alike rs n))

-- "Each gives a warning row 3, junction row, road row, end."
unfoldable pub warning_row : Tables → Warning → List ℕ
warning_row t w = 3 ∷ w.junction_row ∷ row_named (same t) (roads_of t) w.road ∷ bit w.at_end ∷ []

-- the map after repair
abbrev pub repaired_map : Tables → Map
repaired_map t = repair (same t) (map_of t)

-- its words, and the warnings: what repair has to write
unfoldable pub repair_content : Tables → RepairOutputs
repair_content t = record {
  roads = road_words (repaired_map t).roads;
  junctions = junction_words (repaired_map t).junctions;
  connections = connection_words (repaired_map t).junctions;
  pairs = pair_words (repaired_map t).junctions;
  warnings = gather (warning_row t) (warnings (same t) (map_of t));
}

-- "connections and pairs handed to repair .. at most 8,192"
unfoldable pub repair_rules : Tables → List Rule
repair_rules t = rules_to5 (map_sized 8192 t) (map_worded t) t

-- "Repair: 1 .. 2 .. 3 .. 4 .. 5 .. 9"
unfoldable pub repair_refusal : Tables → List ℕ → Option ℕ
repair_refusal t lengths = first_broken (repair_rules t ++ long_enough (repair_lengths (repair_content t)) lengths)

-- REPAIR'S WHOLE OUTCOME
unfoldable pub repair_call : Tables → RepairOutputs → Outcome RepairOutputs
repair_call t o = called repair_writing (repair_rules t) (repair_content t) o

-- ---- Succession
-- "for each of the two lists, offsets .. and the identities packed"
pub record ListOutputs : Type 0 where
  pub successor_offsets : List ℕ
  pub successor_ids : List ℕ
  pub predecessor_offsets : List ℕ
  pub predecessor_ids : List ℕ

unfoldable pub list_lengths : ListOutputs → List ℕ
list_lengths o =
    length o.successor_offsets ∷ length o.successor_ids ∷ length o.predecessor_offsets
    ∷ length o.predecessor_ids ∷ []

unfoldable pub put_lists : ListOutputs → ListOutputs → ListOutputs
put_lists c o = record {
  successor_offsets = written c.successor_offsets o.successor_offsets;
  successor_ids = written c.successor_ids o.successor_ids;
  predecessor_offsets = written c.predecessor_offsets o.predecessor_offsets;
  predecessor_ids = written c.predecessor_ids o.predecessor_ids;
}

-- offsets and identities are single words, so a row is a word
abbrev pub list_writing : Writing ListOutputs
list_writing = record { lengths = list_lengths; rows = list_lengths; put = put_lists }

-- what succession has to write
unfoldable pub list_content : Tables → ListOutputs
list_content t = record {
  successor_offsets = offsets_from 0 (successor_lists (same t) (map_of t));
  successor_ids = packed (successor_lists (same t) (map_of t));
  predecessor_offsets = offsets_from 0 (predecessor_lists (same t) (map_of t));
  predecessor_ids = packed (predecessor_lists (same t) (map_of t));
}

unfoldable pub succession_rules : Tables → List Rule
succession_rules t = rules_to5 (map_sized 16384 t && lanes_sized t) (map_worded t && lanes_worded t) t ++ lane_rules t

-- SUCCESSION'S WHOLE OUTCOME: "1, 2, 3, 4, 5; 6 .. 7 .. 8 .. 9"
unfoldable pub succession_call : Tables → ListOutputs → Outcome ListOutputs
succession_call t o = called list_writing (succession_rules t) (list_content t) o

-- ---- Gap check
-- how many words gap rows have
abbrev pub gap_width : ℕ
gap_width = 5

-- a gap row's words
unfoldable pub gap_words : GapRow → List ℕ
gap_words g = g.lane_row ∷ g.next_row ∷ g.gap ∷ g.u ∷ g.v ∷ []

-- what the gap check has to write, from the lists of successors
unfoldable pub gap_content : Tables → (offsets ids : List ℕ) → List ℕ
gap_content t offsets ids = gather gap_words (link_gaps (edged_lanes_of t) (lists_in offsets ids))

unfoldable pub gap_rules : Tables → (offsets ids : List ℕ) → List Rule
gap_rules t offsets ids =
    rules_to5 (map_sized 16384 t && lanes_sized t && edges_sized t && lists_sized offsets ids)
    (map_worded t && lanes_worded t) t
    ++ lane_rules t ++ (rule 10 (edges_fit t) ∷ rule 11 (lists_fit t offsets ids) ∷ [])

-- THE GAP CHECK'S WHOLE OUTCOME: "1 to 8; 10 .. 11 .. 9"
unfoldable pub gap_call : Tables → (offsets ids : List ℕ) → List ℕ → Outcome (List ℕ)
gap_call t offsets ids o = called (table_writing gap_width) (gap_rules t offsets ids) (gap_content t offsets ids) o

-- ---- Reversal
-- "reversal writes roads, sections, connections, pairs, lanes and edges"
pub record ReversalOutputs : Type 0 where
  pub roads : List ℕ
  pub sections : List ℕ
  pub connections : List ℕ
  pub pairs : List ℕ
  pub lanes : List ℕ
  pub edges : List Float

unfoldable pub reversal_lengths : ReversalOutputs → List ℕ
reversal_lengths o =
    length o.roads ∷ length o.sections ∷ length o.connections ∷ length o.pairs ∷ length o.lanes
    ∷ length o.edges ∷ []

unfoldable pub reversal_counts : ReversalOutputs → List ℕ
reversal_counts o =
    length o.roads / road_width ∷ length o.sections ∷ length o.connections / connection_width
    ∷ length o.pairs / pair_width
    ∷ length o.lanes / lane_width ∷ length o.edges / edge_width ∷ []

unfoldable pub put_reversed : ReversalOutputs → ReversalOutputs → ReversalOutputs
put_reversed c o = record {
  roads = written c.roads o.roads;
  sections = written c.sections o.sections;
  connections = written c.connections o.connections;
  pairs = written c.pairs o.pairs;
  lanes = written c.lanes o.lanes;
  edges = written c.edges o.edges;
}

abbrev pub reversal_writing : Writing ReversalOutputs
reversal_writing = record { lengths = reversal_lengths; rows = reversal_counts; put = put_reversed }

-- "One mark for each road": the roads that the marks name
abbrev pub marked_by : Tables → List ℕ → Span → Bool
marked_by t marks = marked (same t) (roads_of t) marks

-- the map reversed by the marks
abbrev pub reversed_map : Tables → List ℕ → Map
reversed_map t marks = reverse_map (same t) (marked_by t marks) (map_of t)

-- its words and its edges: what reversal has to write
unfoldable pub reversal_content : Tables → List ℕ → ReversalOutputs
reversal_content t marks = record {
  roads = road_words (reversed_map t marks).roads;
  sections = section_words (reversed_map t marks).roads;
  connections = connection_words (reversed_map t marks).junctions;
  pairs = pair_words (reversed_map t marks).junctions;
  lanes = lane_words (reversed_map t marks).lanes;
  edges = edge_words (map (reverse_edged (same t) (marked_by t marks) (roads_of t)) (edged_lanes_of t));
}

-- 1 to 8 and 10: they look at the tables alone
unfoldable pub table_rules : Tables → List Rule
table_rules t = rules_to5 (map_sized 16384 t && lanes_sized t && edges_sized t) (map_worded t && lanes_worded t) t
    ++ lane_rules t ++ (rule 10 (edges_fit t) ∷ [])

-- 12 to 14: they look at the marks too
unfoldable pub mark_rules : Tables → List ℕ → List Rule
mark_rules t marks = rule 12 (marks_fit t.roads marks) ∷ rule 13 (numbers_turn t) ∷ rule 14 (one_ended t marks) ∷ []

unfoldable pub reversal_rules : Tables → List ℕ → List Rule
reversal_rules t marks = table_rules t ++ mark_rules t marks

-- "Reversal: 1 to 8; 10; 12 .. 13 .. 14 .. 9"
unfoldable pub reversal_refusal : Tables → (marks lengths : List ℕ) → Option ℕ
reversal_refusal t marks lengths =
    first_broken (reversal_rules t marks ++ long_enough (reversal_lengths (reversal_content t marks)) lengths)

-- REVERSAL'S WHOLE OUTCOME
unfoldable pub reversal_call : Tables → List ℕ → ReversalOutputs → Outcome ReversalOutputs
reversal_call t marks o = called reversal_writing (reversal_rules t marks) (reversal_content t marks) o
