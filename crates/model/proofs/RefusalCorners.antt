-- Corner cases of the refusals, each worked out by antt: tables that break one rule and no other, the limits,
-- the first of two faults, and tables that break every rule.
use mathlib.Core.Path.{◌≡◌, refl}
use mathlib.Core.Bool.{true, false}
use mathlib.Core.Option.{Option, none, some}
use mathlib.Core.List.{List, [], ◌∷◌, ◌++◌}
use Prim.Native.Nat.{ℕ, ◌+◌, ◌*◌}
use lib.ListN.{length, replicate}
use Rattle.geometry.specs.declared.gap.Direction.TheVariants.{Forward}
use Rattle.model.specs.Calls.{ListOutputs, RepairOutputs, ReversalOutputs, gap_call, gap_content, gap_rules}
use Rattle.model.specs.Calls.{list_content, list_lengths, long_enough, refused, repair_call, repair_content}
use Rattle.model.specs.Calls.{repair_lengths, repair_rules, reversal_call, reversal_content, reversal_lengths}
use Rattle.model.specs.Calls.{reversal_rules, succession_call, succession_rules}
use Rattle.model.specs.Records.{Junction, Lane, Map, Road, Target, common, direct, virtual}
use Rattle.model.specs.Rules.{least_number, lists_sized, map_sized, sized}
use Rattle.model.specs.Tables.{Tables, absent_start, road_width, tables_of}
use Rattle.model.proofs.CardMaps.{a, b, bits, c, connection, edged_at, end_at, j, junction, lane, pair}
use Rattle.model.proofs.CardMaps.{road, tables_for, text, to_junction, to_road}
use Rattle.model.proofs.Computed.{broken}

-- ---- the map that is damaged: roads a and b, and junction j from a into b
abbrev from_a_to_b : List Junction
from_a_to_b = junction common (connection a b false (pair 1 1 ∷ []) ∷ []) ∷ []

abbrev map_of : List Road → List Lane → Map
map_of rs ls = record { roads = rs; junctions = from_a_to_b; lanes = ls }

abbrev two_roads : List Road
two_roads = road a none (to_junction j) (0 ∷ []) ∷ road b none none (0 ∷ []) ∷ []

abbrev two_lanes : List Lane
two_lanes = lane 7 a 0 1 Forward none ∷ lane 9 b 0 1 Forward none ∷ []

abbrev whole : Tables
whole = tables_for (map_of two_roads two_lanes)

-- the tables with words added at their ends
abbrev with_more : Tables → (roads sections junctions connections pairs lanes : List ℕ) → Tables
with_more t roads sections junctions connections pairs lanes = record {
  text = t.text;
  roads = t.roads ++ roads;
  sections = t.sections ++ sections;
  junctions = t.junctions ++ junctions;
  connections = t.connections ++ connections;
  pairs = t.pairs ++ pairs;
  lanes = t.lanes ++ lanes;
  edges = t.edges;
}

-- ---- outputs that are long enough, every word 5
abbrev room : List ℕ
room = replicate 60 5

abbrev for_repair : RepairOutputs
for_repair = record { roads = room; junctions = room; connections = room; pairs = room; warnings = room }

abbrev for_lists : ListOutputs
for_lists =
    record { successor_offsets = room; successor_ids = room; predecessor_offsets = room; predecessor_ids = room }

abbrev for_reversal : ReversalOutputs
for_reversal =
    record {
      roads = room;
      sections = room;
      connections = room;
      pairs = room;
      lanes = room;
      edges = replicate 60 (bits 5);
    }

-- the rules that the tables break, and that the call answers with the first of them and changes no lent word
abbrev RepairRefuses : Tables → ℕ → List ℕ → Type 0
RepairRefuses t k more =
    (broken (repair_rules t ++ long_enough (repair_lengths (repair_content t)) (repair_lengths for_repair))
    ≡ k ∷ more)
    × (repair_call t for_repair ≡ record { answer = refused k; outs = for_repair })

abbrev SuccessionRefuses : Tables → ℕ → List ℕ → Type 0
SuccessionRefuses t k more =
    (broken (succession_rules t ++ long_enough (list_lengths (list_content t)) (list_lengths for_lists)) ≡ k ∷ more)
    × (succession_call t for_lists ≡ record { answer = refused k; outs = for_lists })

abbrev GapsRefuse : Tables → (offsets ids : List ℕ) → ℕ → List ℕ → Type 0
GapsRefuse t offsets ids k more =
    (broken (gap_rules t offsets ids ++ long_enough (length (gap_content t offsets ids) ∷ []) (length room ∷ []))
    ≡ k ∷ more)
    × (gap_call t offsets ids room ≡ record { answer = refused k; outs = room })

abbrev ReversalRefuses : Tables → List ℕ → ℕ → List ℕ → Type 0
ReversalRefuses t marks k more =
    (broken (reversal_rules t marks
    ++ long_enough (reversal_lengths (reversal_content t marks)) (reversal_lengths for_reversal)) ≡ k ∷ more)
    × (reversal_call t marks for_reversal ≡ record { answer = refused k; outs = for_reversal })

-- the whole map breaks no rule of any call
pub nothing_broken : (broken (repair_rules whole) ≡ [])
    × (broken (succession_rules whole) ≡ [])
    × (broken (gap_rules whole (0 ∷ 1 ∷ 1 ∷ []) (9 ∷ [])) ≡ [])
    × (broken (reversal_rules whole (0 ∷ 1 ∷ [])) ≡ [])
unfolding broken
nothing_broken = (refl, refl, refl, refl)

-- "1 an input's length is no whole number of rows": one word too many in the roads, in the junctions, and in
-- the lanes
pub no_whole_rows : RepairRefuses (with_more whole (0 ∷ []) [] [] [] [] []) 1 []
    × RepairRefuses (with_more whole [] [] (0 ∷ []) [] [] []) 1 []
    × SuccessionRefuses (with_more whole [] [] [] [] [] (0 ∷ [])) 1 []
unfolding broken
no_whole_rows = ((refl, refl), (refl, refl), (refl, refl))

-- the edges of lane 9 have a number too many
abbrev odd_edges : Tables
odd_edges =
    tables_of text (map_of two_roads two_lanes)
    (edged_at 0 (lane 7 a 0 1 Forward none)
    ∷ record { lane = lane 9 b 0 1 Forward none; at_start = end_at 0; at_end = end_at 0 ++ (bits 0 ∷ []) } ∷ [])

-- edges and lists are inputs too: edges of no whole rows, and offsets too many
pub other_inputs : GapsRefuse odd_edges (0 ∷ 0 ∷ 0 ∷ []) [] 1 (10 ∷ [])
    × ReversalRefuses odd_edges (0 ∷ 0 ∷ []) 1 (10 ∷ [])
    × GapsRefuse whole (replicate 16386 0) [] 1 (11 ∷ [])
unfolding broken
other_inputs = ((refl, refl), (refl, refl), (refl, refl))

-- "or above its limit": 16,384 rows pass and one more does not
pub row_limit : (sized road_width 16384 (16384 * 20) ≡ true)
    × (sized road_width 16384 (16385 * 20) ≡ false)
    × (sized road_width 16384 (16383 * 20 + 1) ≡ false)
unfolding sized
row_limit = (refl, refl, refl)

-- tables of zeros: sections, connections and pairs, by their rows
abbrev zeros : (sections connections pairs : ℕ) → Tables
zeros sections connections pairs = record {
  text = [];
  roads = [];
  sections = replicate sections 0;
  junctions = [];
  connections = replicate (connections * 7) 0;
  pairs = replicate (pairs * 2) 0;
  lanes = [];
  edges = [];
}

-- "each table at most 16,384 rows, but connections and pairs handed to repair .. at most 8,192"
pub table_limits : (map_sized 16384 (zeros 16384 0 16384) ≡ true)
    × (map_sized 16384 (zeros 16385 0 0) ≡ false)
    × (map_sized 16384 (zeros 0 0 16385) ≡ false)
    × (map_sized 8192 (zeros 16384 8192 8192) ≡ true)
    × (repair_call (zeros 0 8193 0) for_repair ≡ record { answer = refused 1; outs = for_repair })
    × (repair_call (zeros 0 0 8193) for_repair ≡ record { answer = refused 1; outs = for_repair })
unfolding broken
table_limits = (refl, refl, refl, refl, refl, refl)

-- "packed identities at most 131,072, and offsets at most 16,385 words"
pub list_limits : (lists_sized (replicate 16385 0) (replicate 131072 0) ≡ true)
    × (lists_sized (replicate 16386 0) [] ≡ false)
    × (lists_sized [] (replicate 131073 0) ≡ false)
unfolding broken
list_limits = (refl, refl, refl)

-- "2 a word or name breaks the table rules": a road whose name passes the end of the text; a connection with
-- contact 2; a junction of kind 3; a lane of direction 3; and a number whose flag is 0
pub words_broken : RepairRefuses
    (with_more whole ((0 ∷ 6 ∷ absent_start ∷ 0 ∷ []) ++ replicate 14 0 ++ (2 ∷ 0 ∷ [])) [] [] [] [] []) 2 []
    × RepairRefuses (with_more whole [] [] (4 ∷ 1 ∷ 0 ∷ 1 ∷ 1 ∷ []) (0 ∷ 1 ∷ 1 ∷ 1 ∷ 2 ∷ 1 ∷ 0 ∷ []) [] []) 2 []
    × RepairRefuses (with_more whole [] [] (3 ∷ 1 ∷ 3 ∷ 1 ∷ 0 ∷ []) [] [] []) 2 []
    × SuccessionRefuses (with_more whole [] [] [] [] [] (8 ∷ 0 ∷ 1 ∷ 0 ∷ 2 ∷ 3 ∷ 0 ∷ 0 ∷ 0 ∷ 0 ∷ [])) 2 []
    × SuccessionRefuses (with_more whole [] [] [] [] [] (8 ∷ 0 ∷ 1 ∷ 0 ∷ 2 ∷ 0 ∷ 0 ∷ 1 ∷ 0 ∷ 0 ∷ [])) 2 []
unfolding broken
words_broken = ((refl, refl), (refl, refl), (refl, refl), (refl, refl), (refl, refl))

-- "3 a road name twice"
pub road_twice : RepairRefuses
    (tables_for (map_of (road a none none (0 ∷ []) ∷ road a none none (0 ∷ []) ∷ []) [])) 3 []
unfolding broken
road_twice = (refl, refl)

-- "4 a section part misplaced or not strictly ascending": a section that no road has, sections that fall, a
-- section twice
pub sections_wrong : RepairRefuses (with_more whole [] (1 ∷ []) [] [] [] []) 4 []
    × RepairRefuses (tables_for (map_of (road a none none (1 ∷ 0 ∷ []) ∷ []) [])) 4 []
    × RepairRefuses (tables_for (map_of (road a none none (1 ∷ 1 ∷ []) ∷ []) [])) 4 []
unfolding broken
sections_wrong = ((refl, refl), (refl, refl), (refl, refl))

-- "5 a connection or pair part misplaced": a pair that no connection has, a connection that no junction has, a
-- part that begins elsewhere
pub parts_misplaced : RepairRefuses (with_more whole [] [] [] [] (1 ∷ 1 ∷ []) []) 5 []
    × RepairRefuses (with_more whole [] [] [] (0 ∷ 1 ∷ 1 ∷ 1 ∷ 0 ∷ 1 ∷ 0 ∷ []) [] []) 5 []
    × RepairRefuses (with_more whole [] [] (3 ∷ 1 ∷ 0 ∷ 0 ∷ 0 ∷ []) [] [] []) 5 []
unfolding broken
parts_misplaced = ((refl, refl), (refl, refl), (refl, refl))

-- "6 an identity twice"
pub identity_twice : SuccessionRefuses
    (tables_for (map_of two_roads (lane 7 a 0 1 Forward none ∷ lane 7 b 0 1 Forward none ∷ []))) 6 []
unfolding broken
identity_twice = (refl, refl)

-- "7 a lane's road unknown or its section not listed there"
pub lane_nowhere : SuccessionRefuses (tables_for (map_of two_roads (lane 7 c 0 1 Forward none ∷ []))) 7 []
    × SuccessionRefuses (tables_for (map_of two_roads (lane 7 a 1 1 Forward none ∷ []))) 7 []
unfolding broken
lane_nowhere = ((refl, refl), (refl, refl))

-- "8 two lanes with equal road, section and number"
pub place_twice : SuccessionRefuses
    (tables_for (map_of two_roads (lane 7 a 0 1 Forward none ∷ lane 9 a 0 1 Forward none ∷ []))) 8 []
unfolding broken
place_twice = (refl, refl)

-- the whole map with the edges of one lane
abbrev one_edge : Tables
one_edge = tables_of text (map_of two_roads two_lanes) (edged_at 0 (lane 7 a 0 1 Forward none) ∷ [])

-- "10 edges not 12 for each lane"
pub edges_missing : GapsRefuse one_edge (0 ∷ 0 ∷ 0 ∷ []) [] 10 [] × ReversalRefuses one_edge (0 ∷ 0 ∷ []) 10 []
unfolding broken
edges_missing = ((refl, refl), (refl, refl))

-- "11 offsets falling, wrongly sized, not starting at 0 or not ending at the count, or an identity no lane bears"
pub lists_wrong : GapsRefuse whole (0 ∷ 2 ∷ 1 ∷ []) (9 ∷ []) 11 []
    × GapsRefuse whole (0 ∷ 1 ∷ []) (9 ∷ []) 11 []
    × GapsRefuse whole (1 ∷ 1 ∷ 1 ∷ []) (9 ∷ []) 11 []
    × GapsRefuse whole (0 ∷ 0 ∷ 0 ∷ []) (9 ∷ []) 11 [] × GapsRefuse whole (0 ∷ 1 ∷ 1 ∷ []) (8 ∷ []) 11 []
unfolding broken
lists_wrong = ((refl, refl), (refl, refl), (refl, refl), (refl, refl), (refl, refl))

-- "12 marks not one 0 or 1 for each road": too few, too many, and a 2
pub marks_wrong : ReversalRefuses whole (1 ∷ []) 12 []
    × ReversalRefuses whole (1 ∷ 0 ∷ 0 ∷ []) 12 []
    × ReversalRefuses whole (2 ∷ 0 ∷ []) 12 []
unfolding broken
marks_wrong = ((refl, refl), (refl, refl), (refl, refl))

-- the pairs of junction j
abbrev with_pair : ℕ → ℕ → Tables
with_pair from to =
    tables_for (record {
      roads = two_roads;
      junctions = junction common (connection a b false (pair from to ∷ []) ∷ []) ∷ [];
      lanes = [];
    })

-- lane 7 with a number and two links
abbrev with_numbers : ℕ → ℕ → ℕ → Tables
with_numbers number back on =
    tables_for (map_of two_roads (record {
      identity = 7;
      road = a;
      section = 0;
      number = number;
      direction = Forward;
      predecessor = some back;
      successor = some on;
    } ∷ []))

-- "13 a lane, link or pair number is -2,147,483,648", with no road marked
pub least_number_lem : ReversalRefuses (with_numbers least_number 1 1) (0 ∷ 0 ∷ []) 13 []
    × ReversalRefuses (with_numbers 1 least_number 1) (0 ∷ 0 ∷ []) 13 []
    × ReversalRefuses (with_numbers 1 1 least_number) (0 ∷ 0 ∷ []) 13 []
    × ReversalRefuses (with_pair least_number 1) (0 ∷ 0 ∷ []) 13 []
    × ReversalRefuses (with_pair 1 least_number) (0 ∷ 0 ∷ []) 13 []
unfolding broken
least_number_lem = ((refl, refl), (refl, refl), (refl, refl), (refl, refl), (refl, refl))

-- road a with two targets, beside road b
abbrev meeting : Option Target → Option Target → List Junction → Tables
meeting before after js =
    tables_for
    (record { roads = road a before after (0 ∷ []) ∷ road b none none (0 ∷ []) ∷ []; junctions = js; lanes = [] })

-- "14 a marked road names one direct junction at both ends", and any row of that name counts
pub direct_at_both_ends : ReversalRefuses (meeting (to_junction j) (to_junction j) (junction direct [] ∷ []))
    (1 ∷ 0 ∷ []) 14 []
    × ReversalRefuses (meeting (to_junction j) (to_junction j) (junction direct [] ∷ junction common [] ∷ []))
    (1 ∷ 0 ∷ []) 14 []
unfolding broken
direct_at_both_ends = ((refl, refl), (refl, refl))

-- not where another road is marked, the junction is common or virtual, or the road names it at one end
pub not_at_both_ends : (broken
    (reversal_rules (meeting (to_junction j) (to_junction j) (junction direct [] ∷ [])) (0 ∷ 1 ∷ [])) ≡ [])
    × (broken (reversal_rules
    (meeting (to_junction j) (to_junction j) (junction common [] ∷ junction virtual [] ∷ [])) (1 ∷ 1 ∷ [])) ≡ [])
    × (broken (reversal_rules (meeting (to_junction j) (to_road b false) (junction direct [] ∷ [])) (1 ∷ 1 ∷ [])) ≡ [])
    × (broken (reversal_rules (meeting none (to_junction j) (junction direct [] ∷ [])) (1 ∷ 1 ∷ [])) ≡ [])
unfolding broken
not_at_both_ends = (refl, refl, refl, refl)

-- "The first that applies is given": 3 and 4; 10 and 12; 13 and 14
pub first_that_applies : RepairRefuses
    (tables_for (map_of (road a none none (1 ∷ 0 ∷ []) ∷ road a none none [] ∷ []) [])) 3 (4 ∷ [])
    × ReversalRefuses one_edge [] 10 (12 ∷ [])
    × ReversalRefuses (tables_for (record {
      roads = road a (to_junction j) (to_junction j) (0 ∷ []) ∷ [];
      junctions = junction direct [] ∷ [];
      lanes = lane 7 a 0 least_number Forward none ∷ [];
    })) (1 ∷ []) 13 (14 ∷ [])
unfolding broken
first_that_applies = ((refl, refl), (refl, refl), (refl, refl))

-- ---- tables that break every rule
-- road a stands twice, names direct junction j at both ends and has sections that fall; lane 7 stands twice, in
-- a section that is not listed, with the least number; one lane has edges, its ends 2 apart; and there is a
-- word too many in the roads, a junction of kind 3, and a pair of no connection
abbrev all_wrong : Tables
all_wrong = with_more (tables_of text (record {
  roads = road a (to_junction j) (to_junction j) (1 ∷ 0 ∷ []) ∷ road a none none [] ∷ [];
  junctions = junction direct [] ∷ [];
  lanes = lane 7 a 9 least_number Forward none ∷ lane 7 a 9 least_number Forward none ∷ [];
}) (record { lane = lane 7 a 9 least_number Forward none; at_start = end_at 0; at_end = end_at 0x4000_0000 } ∷ []))
    (0 ∷ []) [] (3 ∷ 1 ∷ 3 ∷ 0 ∷ 0 ∷ []) [] (1 ∷ 1 ∷ []) []

-- each call's numbers in the order of "How each call refuses", with outputs that hold nothing, and two offsets
-- of three
pub every_rule : (broken
    (repair_rules all_wrong ++ long_enough (repair_lengths (repair_content all_wrong)) (0 ∷ 0 ∷ 0 ∷ 0 ∷ 0 ∷ []))
    ≡ 1 ∷ 2 ∷ 3 ∷ 4 ∷ 5 ∷ 9 ∷ [])
    × (broken
    (succession_rules all_wrong ++ long_enough (list_lengths (list_content all_wrong)) (0 ∷ 0 ∷ 0 ∷ 0 ∷ []))
    ≡ 1 ∷ 2 ∷ 3 ∷ 4 ∷ 5 ∷ 6 ∷ 7 ∷ 8 ∷ 9 ∷ [])
    × (broken (gap_rules all_wrong (0 ∷ 1 ∷ []) (7 ∷ [])
    ++ long_enough (length (gap_content all_wrong (0 ∷ 1 ∷ []) (7 ∷ [])) ∷ []) (0 ∷ []))
    ≡ 1 ∷ 2 ∷ 3 ∷ 4 ∷ 5 ∷ 6 ∷ 7 ∷ 8 ∷ 10 ∷ 11 ∷ 9 ∷ [])
    × (broken (reversal_rules all_wrong (1 ∷ [])
    ++ long_enough (reversal_lengths (reversal_content all_wrong (1 ∷ []))) (0 ∷ 0 ∷ 0 ∷ 0 ∷ 0 ∷ 0 ∷ []))
    ≡ 1 ∷ 2 ∷ 3 ∷ 4 ∷ 5 ∷ 6 ∷ 7 ∷ 8 ∷ 10 ∷ 12 ∷ 13 ∷ 14 ∷ 9 ∷ [])
unfolding broken
every_rule = (refl, refl, refl, refl)
