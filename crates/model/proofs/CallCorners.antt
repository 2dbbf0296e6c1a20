-- Corner cases of the calls over words, each worked out by antt: every word that an accepted call writes, the
-- words after them, and outputs that are too short.
use mathlib.Core.Path.{◌≡◌, refl}
use mathlib.Core.Bool.{true, false}
use mathlib.Core.Option.{none, some}
use mathlib.Core.List.{List, [], ◌∷◌, ◌++◌}
use Prim.Native.Nat.{ℕ}
use lib.ListN.{replicate}
use Rattle.geometry.specs.declared.gap.Direction.TheVariants.{Forward}
use Rattle.model.specs.Calls.{ListOutputs, Outcome, RepairOutputs, ReversalOutputs, gap_call, refused}
use Rattle.model.specs.Calls.{repair_call, reversal_call, succession_call, wrote}
use Rattle.model.specs.Claim.{found_lists, list_rows}
use Rattle.model.specs.Records.{Lane, common, virtual}
use Rattle.model.specs.Sequence.{found, from_repaired, with_repaired}
use Rattle.model.specs.Tables.{Tables, absent_start, tables_of}
use Rattle.model.proofs.CardMaps.{a, apart, b, bits, connection, end_at, junction, lane, minus1, no_lanes}
use Rattle.model.proofs.CardMaps.{pair, road, straight, tables_for, text, to_road}
use Rattle.model.proofs.Computed.{broken}

-- words that a call finds in an output
abbrev lent : ℕ → List ℕ
lent n = replicate n 5

-- ---- repair
-- road a, in row 1, lacks junction j, in row 1, at its end, where road b links back to it
abbrev lacking : Tables
lacking = tables_for (record {
  roads = road b (to_road a true) none (0 ∷ []) ∷ road a none none (0 ∷ []) ∷ [];
  junctions = junction virtual [] ∷ junction common (connection a b false (pair 1 2 ∷ []) ∷ []) ∷ [];
  lanes = [];
})

abbrev repair_outputs : (roads junctions connections pairs warnings : ℕ) → RepairOutputs
repair_outputs roads junctions connections pairs warnings = record {
  roads = lent roads;
  junctions = lent junctions;
  connections = lent connections;
  pairs = lent pairs;
  warnings = lent warnings;
}

-- no target
abbrev vacant : List ℕ
vacant = replicate 7 0

-- a target at an end of road a, and junction j at the end
abbrev end_of_a : List ℕ
end_of_a = 1 ∷ 0 ∷ 0 ∷ 1 ∷ 1 ∷ 1 ∷ 0 ∷ []

abbrev j_at_end : List ℕ
j_at_end = 1 ∷ 1 ∷ 3 ∷ 1 ∷ 1 ∷ 1 ∷ 0 ∷ []

-- "An accepted call returns the rows written to each output and leaves the words after them untouched": two
-- roads, two junctions, a connection, a pair and a warning
pub repair_writes : repair_call lacking (repair_outputs 41 12 8 4 6) ≡ record {
  answer = wrote (2 ∷ 2 ∷ 1 ∷ 1 ∷ 1 ∷ []);
  outs = record {
    roads = (1 ∷ 1 ∷ absent_start ∷ 0 ∷ []) ++ end_of_a ++ vacant ++ (0 ∷ 1 ∷ []) ++ (0 ∷ 1 ∷ absent_start ∷ 0 ∷ [])
        ++ vacant ++ j_at_end ++ (1 ∷ 1 ∷ []) ++ (5 ∷ []);
    junctions = 3 ∷ 1 ∷ 2 ∷ 0 ∷ 0 ∷ 3 ∷ 1 ∷ 0 ∷ 0 ∷ 1 ∷ 5 ∷ 5 ∷ [];
    connections = 0 ∷ 1 ∷ 1 ∷ 1 ∷ 0 ∷ 0 ∷ 1 ∷ 5 ∷ [];
    pairs = 1 ∷ 2 ∷ 5 ∷ 5 ∷ [];
    warnings = 3 ∷ 1 ∷ 1 ∷ 1 ∷ 5 ∷ 5 ∷ [];
  };
}
unfolding broken
repair_writes = refl

-- "A refusal returns its number alone and changes no lent word."
abbrev Refuses : {O : Type 0} → Outcome O → ℕ → O → Type 0
Refuses x k o = x ≡ record { answer = refused k; outs = o }

-- "9 an output shorter than its content": each of the five outputs shorter by a word, and then just long enough
pub repair_short : Refuses (repair_call lacking (repair_outputs 39 10 7 2 4)) 9 (repair_outputs 39 10 7 2 4)
    × Refuses (repair_call lacking (repair_outputs 40 9 7 2 4)) 9 (repair_outputs 40 9 7 2 4)
    × Refuses (repair_call lacking (repair_outputs 40 10 6 2 4)) 9 (repair_outputs 40 10 6 2 4)
    × Refuses (repair_call lacking (repair_outputs 40 10 7 1 4)) 9 (repair_outputs 40 10 7 1 4)
    × Refuses (repair_call lacking (repair_outputs 40 10 7 2 3)) 9 (repair_outputs 40 10 7 2 3)
    × ((repair_call lacking (repair_outputs 40 10 7 2 4)).answer ≡ wrote (2 ∷ 2 ∷ 1 ∷ 1 ∷ 1 ∷ []))
unfolding broken
repair_short = (refl, refl, refl, refl, refl, refl)

-- an output need hold no more than its content: a map with nothing in it is repaired into empty outputs
pub nothing_to_write : repair_call (tables_for no_lanes) (repair_outputs 0 0 0 0 0)
    ≡ record { answer = wrote (0 ∷ 0 ∷ 0 ∷ 0 ∷ 0 ∷ []); outs = repair_outputs 0 0 0 0 0 }
unfolding broken
nothing_to_write = refl

-- ---- succession
abbrev list_outputs : (successor_offsets successor_ids predecessor_offsets predecessor_ids : ℕ) → ListOutputs
list_outputs so si po pi =
    record
    { successor_offsets = lent so; successor_ids = lent si; predecessor_offsets = lent po; predecessor_ids = lent pi }

-- "offsets (lanes + 1 words, the first 0) and the identities packed in lane row order"
pub succession_writes : succession_call (tables_for straight) (list_outputs 5 4 4 2) ≡ record {
  answer = wrote (4 ∷ 2 ∷ 4 ∷ 2 ∷ []);
  outs = record {
    successor_offsets = 0 ∷ 1 ∷ 2 ∷ 2 ∷ 5 ∷ [];
    successor_ids = 3 ∷ 5 ∷ 5 ∷ 5 ∷ [];
    predecessor_offsets = 0 ∷ 0 ∷ 1 ∷ 2 ∷ [];
    predecessor_ids = 7 ∷ 3 ∷ [];
  };
}
unfolding broken
succession_writes = refl

-- each of the four outputs shorter by a word
pub succession_short : Refuses (succession_call (tables_for straight) (list_outputs 3 2 4 2)) 9 (list_outputs 3 2 4 2)
    × Refuses (succession_call (tables_for straight) (list_outputs 4 1 4 2)) 9 (list_outputs 4 1 4 2)
    × Refuses (succession_call (tables_for straight) (list_outputs 4 2 3 2)) 9 (list_outputs 4 2 3 2)
    × Refuses (succession_call (tables_for straight) (list_outputs 4 2 4 1)) 9 (list_outputs 4 2 4 1)
unfolding broken
succession_short = (refl, refl, refl, refl)

-- ---- the gap check
-- lanes 7 and 9 lie 2 apart: a row, and the word after it; no room for the row; and a link named twice
pub gap_rows_lem : (gap_call (apart 0x4000_0000) (0 ∷ 1 ∷ 1 ∷ []) (9 ∷ []) (lent 6)
    ≡ record { answer = wrote (1 ∷ []); outs = 0 ∷ 1 ∷ 0x4000_0000 ∷ 0 ∷ 0 ∷ 5 ∷ [] })
    × Refuses (gap_call (apart 0x4000_0000) (0 ∷ 1 ∷ 1 ∷ []) (9 ∷ []) (lent 4)) 9 (lent 4)
    × (gap_call (apart 0x4000_0000) (0 ∷ 2 ∷ 2 ∷ []) (9 ∷ 9 ∷ []) (lent 10) ≡ record {
      answer = wrote (2 ∷ []);
      outs = 0 ∷ 1 ∷ 0x4000_0000 ∷ 0 ∷ 0 ∷ 0 ∷ 1 ∷ 0x4000_0000 ∷ 0 ∷ 0 ∷ [];
    })
unfolding broken
gap_rows_lem = (refl, refl, refl)

-- lane 9 lies nowhere, and the row has the bits of infinity
pub nan_row : gap_call (apart 0x7fc0_0000) (0 ∷ 1 ∷ 1 ∷ []) (9 ∷ []) (lent 5)
    ≡ record { answer = wrote (1 ∷ []); outs = 0 ∷ 1 ∷ 0x7f80_0000 ∷ 0 ∷ 0 ∷ [] }
unfolding broken
nan_row = refl

-- ---- reversal
-- road a has sections 0, 1 and 5 and ends at b's end; junction j leads from b into a's start; lane 7 of section
-- 1 is linked onward
abbrev lane7 : Lane
lane7 = lane 7 a 1 1 Forward (some 2)

abbrev three_sections : Tables
three_sections = tables_of text (record {
  roads = road a none (to_road b true) (0 ∷ 1 ∷ 5 ∷ []) ∷ road b none none (0 ∷ []) ∷ [];
  junctions = junction common (connection b a false (pair 1 2 ∷ []) ∷ []) ∷ [];
  lanes = lane7 ∷ [];
}) (record { lane = lane7; at_start = end_at 1; at_end = end_at 2 } ∷ [])

abbrev reversal_outputs : (roads sections connections pairs lanes edges : ℕ) → ReversalOutputs
reversal_outputs roads sections connections pairs lanes edges = record {
  roads = lent roads;
  sections = lent sections;
  connections = lent connections;
  pairs = lent pairs;
  lanes = lent lanes;
  edges = replicate edges (bits 5);
}

-- lane number -2, and a target at b's end
abbrev minus2 : ℕ
minus2 = 4294967294

abbrev end_of_b : List ℕ
end_of_b = 1 ∷ 0 ∷ 1 ∷ 1 ∷ 1 ∷ 1 ∷ 0 ∷ []

-- road a reversed: its targets, sections and lane, the connection into it, and the pair's second number
pub reversal_writes : reversal_call three_sections (1 ∷ 0 ∷ []) (reversal_outputs 41 5 8 3 11 13) ≡ record {
  answer = wrote (2 ∷ 4 ∷ 1 ∷ 1 ∷ 1 ∷ 1 ∷ []);
  outs = record {
    roads = (0 ∷ 1 ∷ absent_start ∷ 0 ∷ []) ++ end_of_b ++ vacant ++ (0 ∷ 3 ∷ []) ++ (1 ∷ 1 ∷ absent_start ∷ 0 ∷ [])
        ++ vacant ++ vacant ++ (3 ∷ 1 ∷ []) ++ (5 ∷ []);
    sections = 0 ∷ 4 ∷ 5 ∷ 0 ∷ 5 ∷ [];
    connections = 1 ∷ 1 ∷ 0 ∷ 1 ∷ 1 ∷ 0 ∷ 1 ∷ 5 ∷ [];
    pairs = 1 ∷ minus2 ∷ 5 ∷ [];
    lanes = 7 ∷ 0 ∷ 1 ∷ 4 ∷ minus1 ∷ 1 ∷ 0 ∷ 0 ∷ 1 ∷ minus2 ∷ 5 ∷ [];
    edges = end_at 2 ++ end_at 1 ++ (bits 5 ∷ []);
  };
}
unfolding broken
reversal_writes = refl

-- each of the six outputs shorter by a word
pub reversal_short : Refuses (reversal_call three_sections (1 ∷ 0 ∷ []) (reversal_outputs 39 4 7 2 10 12)) 9
    (reversal_outputs 39 4 7 2 10 12)
    × Refuses (reversal_call three_sections (1 ∷ 0 ∷ []) (reversal_outputs 40 3 7 2 10 12)) 9
    (reversal_outputs 40 3 7 2 10 12)
    × Refuses (reversal_call three_sections (1 ∷ 0 ∷ []) (reversal_outputs 40 4 6 2 10 12)) 9
    (reversal_outputs 40 4 6 2 10 12)
    × Refuses (reversal_call three_sections (1 ∷ 0 ∷ []) (reversal_outputs 40 4 7 1 10 12)) 9
    (reversal_outputs 40 4 7 1 10 12)
    × Refuses (reversal_call three_sections (1 ∷ 0 ∷ []) (reversal_outputs 40 4 7 2 9 12)) 9
    (reversal_outputs 40 4 7 2 9 12)
    × Refuses (reversal_call three_sections (1 ∷ 0 ∷ []) (reversal_outputs 40 4 7 2 10 11)) 9
    (reversal_outputs 40 4 7 2 10 11)
unfolding broken
reversal_short = (refl, refl, refl, refl, refl, refl)

-- another refusal comes before 9: marks for one road of two, and outputs that hold nothing
pub before_nine : Refuses (reversal_call three_sections (1 ∷ []) (reversal_outputs 0 0 0 0 0 0)) 12
    (reversal_outputs 0 0 0 0 0 0)
    × Refuses (gap_call (apart 0x4000_0000) (0 ∷ 1 ∷ 1 ∷ []) (8 ∷ []) []) 11 []
unfolding broken
before_nine = (refl, refl)

-- ---- repair, succession and the gap check, one after the other
-- one road, one lane, no edges: rule 10 refuses reversal and the gap check, yet lists are found
abbrev no_edges : Tables
no_edges = tables_of text (record {
  roads = road a none none (0 ∷ []) ∷ [];
  junctions = [];
  lanes = lane 7 a 0 1 Forward none ∷ [];
}) []

pub lists_without_edges : Refuses (reversal_call no_edges (1 ∷ []) (reversal_outputs 20 1 0 0 10 0)) 10
    (reversal_outputs 20 1 0 0 10 0)
    × (found_lists (found
    (record { for_repair = repair_outputs 20 0 0 0 0; for_lists = list_outputs 3 1 2 1; for_gaps = [] }) no_edges)
    ≡ some (record {
      successor_offsets = 0 ∷ 0 ∷ [];
      successor_ids = [];
      predecessor_offsets = 0 ∷ 0 ∷ [];
      predecessor_ids = [];
    }))
unfolding broken found from_repaired with_repaired list_rows
lists_without_edges = (refl, refl)
