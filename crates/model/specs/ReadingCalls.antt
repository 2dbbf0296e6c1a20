-- The three calls of attribute reading: how each refuses, and its whole outcome. Definitions only.
use Rattle.std.specs.Prelude.{Bool, true, ◌&&◌, ◌||◌, List, [], ◌∷◌, ℕ, zero, suc, ◌+◌, ◌/◌, ◌%◌, eqb, leb, length}
use Rattle.model.specs.Lists.{every, gather}
use Rattle.model.specs.Text.{placed}
use Rattle.model.specs.Rows.{table, word, parts_fit, written}
use Rattle.model.specs.Tables.{flag, is_absent, span_in, junction_width, connection_width, pair_width}
use Rattle.model.specs.Tables.{target_words, junction_words, connection_words, pair_words}
use Rattle.model.specs.Rules.{Rule, rule, sized}
use Rattle.model.specs.Calls.{Outcome, Writing, table_writing, called, warning_width}
use Rattle.model.specs.Reading.{read_target, target_warnings, read_lane, RawTables, read_junctions, read_warnings}
use Rattle.model.specs.Reading.{read_warning_row}

-- ---- how many words a row has
abbrev pub target_width : ℕ
target_width = 7

abbrev pub raw_target_width : ℕ
raw_target_width = 9

abbrev pub raw_junction_width : ℕ
raw_junction_width = 8

abbrev pub raw_connection_width : ℕ
raw_connection_width = 14

abbrev pub raw_lane_link_width : ℕ
raw_lane_link_width = 4

-- a lane's two links: two names as read, a flag and a number each as written
abbrev pub raw_lane_width : ℕ
raw_lane_width = 4

-- ---- 1 an input's length is no whole number of rows or above its limit: "Text is at most 1,048,576 bytes;
-- each table at most 16,384 rows"
unfoldable pub raw_sized : (text : List ℕ) → (w n : ℕ) → Bool
raw_sized text w n = leb (length text) 1048576 && sized w 16384 n

-- ---- 2 a word or name breaks the table rules
-- "All these names may be absent"
abbrev pub name_worded : List ℕ → List ℕ → ℕ → Bool
name_worded text r k = is_absent (word r k) (word r (k + 1)) || placed text (span_in r k)

-- n names one after the other, from word k of a row on
abbrev pub names_worded : List ℕ → ℕ → List ℕ → ℕ → Bool
names_worded text zero r k = true
names_worded text (suc n) r k = name_worded text r k && names_worded text n r (k + 2)

-- "flag 0 has all four names absent"
unfoldable pub raw_target_worded : List ℕ → List ℕ → Bool
raw_target_worded text r = leb (word r 0) 1 && names_worded text 4 r 1
    && (flag (word r 0) || (is_absent (word r 1) (word r 2) && is_absent (word r 3) (word r 4)
    && is_absent (word r 5) (word r 6) && is_absent (word r 7) (word r 8)))

-- rows that begin with n names, and have no other rule on their words
abbrev pub rows_named : List ℕ → (w n : ℕ) → List ℕ → Bool
rows_named text w n ws = every (λ r. names_worded text n r 0) (table w ws)

-- ---- 5 a connection or lane link part misplaced
unfoldable pub raw_parts_fit : RawTables → Bool
raw_parts_fit t = parts_fit 6 7 0 (length t.connections / raw_connection_width) (table raw_junction_width t.junctions)
    && parts_fit 12 13 0 (length t.lane_links / raw_lane_link_width) (table raw_connection_width t.connections)

-- ---- targets
pub record TargetOutputs : Type 0 where
  pub targets : List ℕ
  pub warnings : List ℕ

abbrev pub target_writing : Writing TargetOutputs
target_writing = record {
  lengths = λ o. length o.targets ∷ length o.warnings ∷ [];
  rows = λ o. length o.targets / target_width ∷ length o.warnings / warning_width ∷ [];
  put = λ c o. record { targets = written c.targets o.targets; warnings = written c.warnings o.warnings };
}

-- "Raw targets stand two to a road": "an odd count is refusal 1"
unfoldable pub two_to_a_road : ℕ → Bool
two_to_a_road n = eqb (n / raw_target_width % 2) 0

unfoldable pub target_rules : (text raw : List ℕ) → List Rule
target_rules text raw =
    rule 1 (raw_sized text raw_target_width (length raw) && two_to_a_road (length raw))
    ∷ rule 2 (every (raw_target_worded text) (table raw_target_width raw)) ∷ []

-- the words of the targets read, and the warnings
unfoldable pub target_content : (text raw : List ℕ) → TargetOutputs
target_content text raw = record {
  targets = gather (λ r. target_words (read_target text r)) (table raw_target_width raw);
  warnings = gather read_warning_row (target_warnings text raw);
}

-- THE READING OF TARGETS, ITS WHOLE OUTCOME: "1, 2, .. 9"
unfoldable pub read_targets_call : (text raw : List ℕ) → TargetOutputs → Outcome TargetOutputs
read_targets_call text raw o = called target_writing (target_rules text raw) (target_content text raw) o

-- ---- lanes
unfoldable pub raw_lane_rules : (text raw : List ℕ) → List Rule
raw_lane_rules text raw =
    rule 1 (raw_sized text raw_lane_width (length raw)) ∷ rule 2 (rows_named text raw_lane_width 2 raw) ∷ []

unfoldable pub raw_lane_content : (text raw : List ℕ) → List ℕ
raw_lane_content text raw = gather (read_lane text) (table raw_lane_width raw)

-- THE READING OF LANES, ITS WHOLE OUTCOME
unfoldable pub read_lanes_call : (text raw out : List ℕ) → Outcome (List ℕ)
read_lanes_call text raw out =
    called (table_writing raw_lane_width) (raw_lane_rules text raw) (raw_lane_content text raw) out

-- ---- junctions
pub record JunctionOutputs : Type 0 where
  pub junctions : List ℕ
  pub connections : List ℕ
  pub pairs : List ℕ
  pub warnings : List ℕ

-- the outputs' lengths in words
unfoldable pub junction_lengths : JunctionOutputs → List ℕ
junction_lengths o = length o.junctions ∷ length o.connections ∷ length o.pairs ∷ length o.warnings ∷ []

-- how many rows that is
unfoldable pub junction_counts : JunctionOutputs → List ℕ
junction_counts o =
    length o.junctions / junction_width ∷ length o.connections / connection_width
    ∷ length o.pairs / pair_width ∷ length o.warnings / warning_width ∷ []

-- the outputs with content c written to them
unfoldable pub put_junctions : JunctionOutputs → JunctionOutputs → JunctionOutputs
put_junctions c o = record {
  junctions = written c.junctions o.junctions;
  connections = written c.connections o.connections;
  pairs = written c.pairs o.pairs;
  warnings = written c.warnings o.warnings;
}

abbrev pub junction_writing : Writing JunctionOutputs
junction_writing = record { lengths = junction_lengths; rows = junction_counts; put = put_junctions }

-- the words of the junctions read, parts recomputed, and the warnings
unfoldable pub junction_content : RawTables → JunctionOutputs
junction_content t = record {
  junctions = junction_words (read_junctions t);
  connections = connection_words (read_junctions t);
  pairs = pair_words (read_junctions t);
  warnings = gather read_warning_row (read_warnings t);
}

unfoldable pub raw_junction_rules : RawTables → List Rule
raw_junction_rules t =
    rule 1 (raw_sized t.text raw_junction_width (length t.junctions)
    && sized raw_connection_width 16384 (length t.connections)
    && sized raw_lane_link_width 16384 (length t.lane_links))
    ∷ rule 2 (rows_named t.text raw_junction_width 3 t.junctions
    && rows_named t.text raw_connection_width 6 t.connections
    && rows_named t.text raw_lane_link_width 2 t.lane_links)
    ∷ rule 5 (raw_parts_fit t) ∷ []

-- THE READING OF JUNCTIONS, ITS WHOLE OUTCOME: "1, 2, 5, 9"
unfoldable pub read_junctions_call : RawTables → JunctionOutputs → Outcome JunctionOutputs
read_junctions_call t o = called junction_writing (raw_junction_rules t) (junction_content t) o
