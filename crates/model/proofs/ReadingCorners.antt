-- Corner cases of attribute reading and the length check, each worked out by antt.
use mathlib.Core.Path.{◌≡◌, refl}
use mathlib.Core.Bool.{Bool, true, false}
use mathlib.Core.Option.{none, some}
use mathlib.Core.List.{List, [], ◌∷◌, ◌++◌}
use Prim.Native.Nat.{ℕ}
use lib.Ieee.{Float, add, binary64, inf, lt, nan, neg, of_bits, of_fields, round, sub, sum, units}
use lib.ListN.{drop, replicate, take}
use Rattle.model.specs.Calls.{Outcome, refused, repair_content, wrote}
use Rattle.model.specs.Joined.{joined_warnings}
use Rattle.model.specs.Length.{far_off, fine, length_call, reported, uneven}
use Rattle.model.specs.Reading.{RawTables, connection_warnings, contact_of, junction_warnings, kept_connections}
use Rattle.model.specs.Reading.{lane_number, leads_into, loose_target, passed_over, read_connection, read_junction}
use Rattle.model.specs.Reading.{read_junctions, read_lane, read_pair, read_target, read_warnings, target_warnings}
use Rattle.model.specs.ReadingCalls.{JunctionOutputs, junction_content, junction_counts, junction_lengths}
use Rattle.model.specs.ReadingCalls.{put_junctions, raw_junction_rules, raw_lane_content}
use Rattle.model.specs.ReadingCalls.{raw_lane_rules, raw_parts_fit, raw_sized, raw_target_worded}
use Rattle.model.specs.ReadingCalls.{read_junctions_call, read_lanes_call, read_targets_call}
use Rattle.model.specs.ReadingCalls.{TargetOutputs, target_content, target_rules, two_to_a_road}
use Rattle.model.specs.Reversal.{negated}
use Rattle.model.specs.Rows.{table, written}
use Rattle.model.specs.Rules.{sized}
use Rattle.model.specs.Tables.{Tables, absent_start, all_connections, all_pairs, connection_row, connection_words}
use Rattle.model.specs.Tables.{junction_row, junction_words, map_tables, name_in, no_row, pair_row, pair_words}
use Rattle.model.specs.Text.{bytes_of, placed, same_in}
use Rattle.model.proofs.Computed.{broken}

-- ---- "A lane number is text that Rust's `parse::<i32>` takes"
-- "", "+", "-", "+-1", "--1", "1 ", "x"
pub no_numbers : (lane_number [] ≡ none)
    × (lane_number (43 ∷ []) ≡ none)
    × (lane_number (45 ∷ []) ≡ none)
    × (lane_number (43 ∷ 45 ∷ 49 ∷ []) ≡ none)
    × (lane_number (45 ∷ 45 ∷ 49 ∷ []) ≡ none) × (lane_number (49 ∷ 32 ∷ []) ≡ none) × (lane_number (120 ∷ []) ≡ none)
unfolding lane_number negated
no_numbers = (refl, refl, refl, refl, refl, refl, refl)

-- "7", "+7", "-1", "-0"
pub small_numbers : (lane_number (55 ∷ []) ≡ some 7)
    × (lane_number (43 ∷ 55 ∷ []) ≡ some 7)
    × (lane_number (45 ∷ 49 ∷ []) ≡ some 4294967295)
    × (lane_number (45 ∷ 48 ∷ []) ≡ some 0)
unfolding lane_number negated
small_numbers = (refl, refl, refl, refl)

-- 21474836, and what follows it in the numbers at the ends of the range
abbrev near_end : List ℕ → List ℕ
near_end ds = (50 ∷ 49 ∷ 52 ∷ 55 ∷ 52 ∷ 56 ∷ 51 ∷ 54 ∷ []) ++ ds

-- "2147483647", "-2147483648", and one past each
pub ends_of_range : (lane_number (near_end (52 ∷ 55 ∷ [])) ≡ some 2147483647)
    × (lane_number (near_end (52 ∷ 56 ∷ [])) ≡ none)
    × (lane_number (45 ∷ near_end (52 ∷ 56 ∷ [])) ≡ some 2147483648)
    × (lane_number (45 ∷ near_end (52 ∷ 57 ∷ [])) ≡ none)
unfolding lane_number negated
ends_of_range = (refl, refl, refl, refl)

-- leading zeros, as many as one likes, also at the end of the range
pub leading_zeros : (lane_number (replicate 40 48 ++ (55 ∷ [])) ≡ some 7)
    × (lane_number (45 ∷ replicate 40 48 ++ near_end (52 ∷ 56 ∷ [])) ≡ some 2147483648)
    × (lane_number (replicate 40 48 ++ near_end (52 ∷ 56 ∷ [])) ≡ none)
unfolding lane_number negated
leading_zeros = (refl, refl, refl)

-- a proof that unfolds it computes the calls
unfoldable opened : ℕ
unfolding lane_number negated connection_warnings junction_warnings kept_connections leads_into passed_over
    read_connection read_junction read_junctions read_lane read_pair read_target read_warnings loose_target
    target_warnings
    junction_content junction_counts junction_lengths put_junctions raw_junction_rules raw_lane_content
    raw_lane_rules raw_parts_fit raw_sized raw_target_worded read_junctions_call read_lanes_call
    read_targets_call target_content target_rules two_to_a_road
    table written sized all_connections all_pairs connection_row connection_words junction_row junction_words pair_row
    pair_words bytes_of placed same_in
    far_off length_call add lt neg of_bits of_fields round sub sum units
opened = 0

-- ---- a text: "virtual", "direct", "end", "a", "b", "-12", "+5", "x", "junction", "End", "start"
abbrev text : List ℕ
text =
    (118 ∷ 105 ∷ 114 ∷ 116 ∷ 117 ∷ 97 ∷ 108 ∷ []) ++ (100 ∷ 105 ∷ 114 ∷ 101 ∷ 99 ∷ 116 ∷ [])
    ++ (101 ∷ 110 ∷ 100 ∷ []) ++ (97 ∷ 98 ∷ []) ++ (45 ∷ 49 ∷ 50 ∷ []) ++ (43 ∷ 53 ∷ []) ++ (120 ∷ [])
    ++ (106 ∷ 117 ∷ 110 ∷ 99 ∷ 116 ∷ 105 ∷ 111 ∷ 110 ∷ []) ++ (69 ∷ 110 ∷ 100 ∷ []) ++ (115 ∷ 116 ∷ 97 ∷ 114 ∷ 116 ∷ [])

abbrev is_virtual : List ℕ
is_virtual = 0 ∷ 7 ∷ []

abbrev is_direct : List ℕ
is_direct = 7 ∷ 6 ∷ []

abbrev end : List ℕ
end = 13 ∷ 3 ∷ []

abbrev a : List ℕ
a = 16 ∷ 1 ∷ []

abbrev b : List ℕ
b = 17 ∷ 1 ∷ []

abbrev minus12 : List ℕ
minus12 = 18 ∷ 3 ∷ []

abbrev twelve : List ℕ
twelve = 19 ∷ 2 ∷ []

abbrev plus5 : List ℕ
plus5 = 21 ∷ 2 ∷ []

abbrev x : List ℕ
x = 23 ∷ 1 ∷ []

abbrev is_junction : List ℕ
is_junction = 24 ∷ 8 ∷ []

abbrev big_end : List ℕ
big_end = 32 ∷ 3 ∷ []

abbrev start : List ℕ
start = 35 ∷ 5 ∷ []

abbrev empty : List ℕ
empty = 40 ∷ 0 ∷ []

abbrev absent : List ℕ
absent = absent_start ∷ 0 ∷ []

-- the whole of a call
abbrev Wrote : Outcome (List ℕ) → ℕ → List ℕ → Type 0
Wrote o n out = o ≡ record { answer = wrote (n ∷ []); outs = out }

abbrev Refuses : {O : Type 0} → Outcome O → ℕ → O → Type 0
Refuses o k out = o ≡ record { answer = refused k; outs = out }

-- ---- lanes: -12 back and none onward; an absent name, and the empty one
pub lanes_read : Wrote
    (read_lanes_call text (minus12 ++ x ++ absent ++ plus5 ++ empty ++ twelve) (replicate 13 9)) 3
    (1 ∷ 4294967284 ∷ 0 ∷ 0 ∷ 0 ∷ 0 ∷ 1 ∷ 5 ∷ 0 ∷ 0 ∷ 1 ∷ 12 ∷ 9 ∷ [])
unfolding opened
lanes_read = refl

-- a row that is not whole; a name past the end of the text; no room
pub lanes_refused : Refuses (read_lanes_call text (a ++ b ++ a) []) 1 []
    × Refuses (read_lanes_call text (a ++ (41 ∷ 0 ∷ [])) []) 2 []
    × Refuses (read_lanes_call text (a ++ b) (9 ∷ 9 ∷ 9 ∷ [])) 9 (9 ∷ 9 ∷ 9 ∷ [])
unfolding opened
lanes_refused = (refl, refl, refl)

-- ---- contact points
abbrev Says : List ℕ → (contact given loose : Bool) → Type 0
Says n contact given loose =
    contact_of text (name_in n 0) ≡ record { contact = contact; given = given; loose = loose }

-- none; "start"; "end"; "End", the empty one, and "en" are loose
pub contact_points : Says absent false false false × Says start false true false × Says end true true false
    × Says big_end false false true × Says empty false false true × Says (13 ∷ 2 ∷ []) false false true
unfolding opened
contact_points = (refl, refl, refl, refl, refl, refl)

-- ---- targets, two to a road
-- of the first road a junction, at "end", and a road, at "End", that is start and not given, and along; of the second
-- no elementId, at "End", and no element; of the third a junction, with an empty contactPoint, and a road, at "start"
abbrev roads : List ℕ
roads =
    ((1 ∷ []) ++ is_junction ++ a ++ end ++ absent) ++ ((1 ∷ []) ++ absent ++ b ++ big_end ++ x)
    ++ ((1 ∷ []) ++ is_junction ++ absent ++ big_end ++ x) ++ ((0 ∷ []) ++ absent ++ absent ++ absent ++ absent)
    ++ ((1 ∷ []) ++ is_junction ++ b ++ empty ++ absent) ++ ((1 ∷ []) ++ absent ++ a ++ start ++ absent)

abbrev targets_lent : (targets warnings : ℕ) → TargetOutputs
targets_lent ts ws = record { targets = replicate ts 9; warnings = replicate ws 9 }

pub targets_read : read_targets_call text roads (targets_lent 43 9) ≡ record {
  answer = wrote (6 ∷ 2 ∷ []);
  outs = record {
    targets = (1 ∷ 1 ∷ []) ++ a ++ (1 ∷ 1 ∷ 0 ∷ []) ++ (1 ∷ 0 ∷ []) ++ b ++ (0 ∷ 0 ∷ 1 ∷ []) ++ replicate 14 0
        ++ (1 ∷ 1 ∷ []) ++ b ++ (0 ∷ 0 ∷ 0 ∷ []) ++ (1 ∷ 0 ∷ []) ++ a ++ (0 ∷ 1 ∷ 0 ∷ []) ++ (9 ∷ []);
    warnings = (4 ∷ no_row ∷ 0 ∷ 1 ∷ []) ++ (4 ∷ no_row ∷ 2 ∷ 0 ∷ []) ++ (9 ∷ []);
  };
}
unfolding opened
targets_read = refl

-- a raw target that has no element
abbrev no_element : List ℕ
no_element = (0 ∷ []) ++ absent ++ absent ++ absent ++ absent

-- a road without its successor, also where a name lies past the text; a name where there is no element; a flag of 2;
-- either output shorter by a word
pub targets_refused : Refuses (read_targets_call text no_element (targets_lent 7 0)) 1 (targets_lent 7 0)
    × Refuses (read_targets_call text ((1 ∷ []) ++ absent ++ (41 ∷ 0 ∷ []) ++ absent ++ absent) (targets_lent 0 0)) 1
    (targets_lent 0 0)
    × Refuses (read_targets_call text (no_element ++ (0 ∷ []) ++ absent ++ a ++ absent ++ absent) (targets_lent 0 0)) 2
    (targets_lent 0 0)
    × Refuses (read_targets_call text ((2 ∷ []) ++ absent ++ a ++ absent ++ absent ++ no_element) (targets_lent 0 0)) 2
    (targets_lent 0 0)
    × Refuses (read_targets_call text roads (targets_lent 41 8)) 9 (targets_lent 41 8)
    × Refuses (read_targets_call text roads (targets_lent 42 7)) 9 (targets_lent 42 7)
unfolding opened
targets_refused = (refl, refl, refl, refl, refl, refl)

-- ---- junctions: direct a; one without id; virtual b with main road a
abbrev junctions : List ℕ
junctions =
    a ++ is_direct ++ absent ++ (0 ∷ 3 ∷ []) ++ absent ++ is_virtual ++ absent ++ (3 ∷ 1 ∷ []) ++ b ++ is_virtual
    ++ a ++ (4 ∷ 3 ∷ [])

-- of a: from a into linked road b at its end; no linked road; no incoming road. Then that of the junction
-- without id. Of b: of type virtual; from the main road; from b into a. The last is kept, and its "End" is warned of;
-- the four before it are not, and theirs is not
abbrev connections : List ℕ
connections =
    (x ++ absent ++ a ++ absent ++ b ++ end ++ (0 ∷ 3 ∷ []))
    ++ (absent ++ absent ++ a ++ b ++ absent ++ end ++ (3 ∷ 0 ∷ []))
    ++ (absent ++ absent ++ absent ++ a ++ b ++ big_end ++ (3 ∷ 1 ∷ []))
    ++ (x ++ is_virtual ++ a ++ b ++ absent ++ big_end ++ (4 ∷ 0 ∷ []))
    ++ (x ++ is_virtual ++ b ++ a ++ absent ++ big_end ++ (4 ∷ 1 ∷ []))
    ++ (x ++ absent ++ a ++ b ++ absent ++ big_end ++ (5 ∷ 0 ∷ []))
    ++ (x ++ absent ++ b ++ a ++ absent ++ big_end ++ (5 ∷ 2 ∷ []))

-- -12 to 5; "x" to 12; 12 to nothing; two that nobody reads; 12 to 12; "x" to 5
abbrev lane_links : List ℕ
lane_links =
    minus12 ++ plus5 ++ x ++ twelve ++ twelve ++ absent ++ x ++ x ++ x ++ x ++ twelve ++ twelve ++ x ++ plus5

abbrev tables : List ℕ → RawTables
tables js = record { text = text; junctions = js; connections = connections; lane_links = lane_links }

abbrev lent : (junctions connections pairs warnings : ℕ) → JunctionOutputs
lent js cs ps ws =
    record {
      junctions = replicate js 9;
      connections = replicate cs 9;
      pairs = replicate ps 9;
      warnings = replicate ws 9;
    }

pub junctions_read : read_junctions_call (tables junctions) (lent 11 15 5 29) ≡ record {
  answer = wrote (2 ∷ 2 ∷ 2 ∷ 7 ∷ []);
  outs = record {
    junctions = a ++ (1 ∷ 0 ∷ 1 ∷ []) ++ b ++ (2 ∷ 1 ∷ 1 ∷ []) ++ (9 ∷ []);
    connections = a ++ b ++ (1 ∷ 0 ∷ 1 ∷ []) ++ b ++ a ++ (0 ∷ 1 ∷ 1 ∷ []) ++ (9 ∷ []);
    pairs = 4294967284 ∷ 5 ∷ 12 ∷ 12 ∷ 9 ∷ [];
    warnings = (2 ∷ 0 ∷ 0 ∷ 1 ∷ []) ++ (2 ∷ 0 ∷ 0 ∷ 2 ∷ []) ++ (1 ∷ 0 ∷ 1 ∷ 0 ∷ []) ++ (1 ∷ 0 ∷ 2 ∷ 0 ∷ [])
        ++ (1 ∷ 1 ∷ 3 ∷ 0 ∷ []) ++ (4 ∷ 2 ∷ 6 ∷ 0 ∷ []) ++ (2 ∷ 2 ∷ 6 ∷ 6 ∷ []) ++ (9 ∷ []);
  };
}
unfolding opened
junctions_read = refl

-- each of the four outputs shorter by a word; a part misplaced; parts that end before the last row
pub junctions_refused : Refuses (read_junctions_call (tables junctions) (lent 9 14 4 28)) 9 (lent 9 14 4 28)
    × Refuses (read_junctions_call (tables junctions) (lent 10 13 4 28)) 9 (lent 10 13 4 28)
    × Refuses (read_junctions_call (tables junctions) (lent 10 14 3 28)) 9 (lent 10 14 3 28)
    × Refuses (read_junctions_call (tables junctions) (lent 10 14 4 27)) 9 (lent 10 14 4 27)
    × Refuses (read_junctions_call (tables (a ++ absent ++ absent ++ (1 ∷ 6 ∷ []))) (lent 0 0 0 0)) 5
    (lent 0 0 0 0)
    × Refuses (read_junctions_call (tables (a ++ absent ++ absent ++ (0 ∷ 6 ∷ []))) (lent 0 0 0 0)) 5
    (lent 0 0 0 0)
unfolding opened
junctions_refused = (refl, refl, refl, refl, refl, refl)

-- ---- "both calls' warnings joined junction by junction"
-- reading warns of a target, of the first junction, of the second, which has no id, and of the third; repair, of the
-- rows that the first and the third became
pub warnings_joined : joined_warnings (tables junctions) (4 ∷ no_row ∷ 2 ∷ 1 ∷ [])
    ((2 ∷ 0 ∷ 0 ∷ 1 ∷ []) ++ (1 ∷ 0 ∷ 1 ∷ 0 ∷ []) ++ (1 ∷ 1 ∷ 3 ∷ 0 ∷ []) ++ (4 ∷ 2 ∷ 4 ∷ 0 ∷ []))
    ((3 ∷ 0 ∷ 7 ∷ 1 ∷ []) ++ (3 ∷ 1 ∷ 5 ∷ 0 ∷ []) ++ (3 ∷ 1 ∷ 6 ∷ 0 ∷ []))
    ≡ (4 ∷ no_row ∷ 2 ∷ 1 ∷ []) ∷ (2 ∷ 0 ∷ 0 ∷ 1 ∷ []) ∷ (1 ∷ 0 ∷ 1 ∷ 0 ∷ [])
    ∷ (3 ∷ 0 ∷ 7 ∷ 1 ∷ [])
    ∷ (1 ∷ 1 ∷ 3 ∷ 0 ∷ [])
    ∷ (4 ∷ 2 ∷ 4 ∷ 0 ∷ []) ∷ (3 ∷ 1 ∷ 5 ∷ 0 ∷ []) ∷ (3 ∷ 1 ∷ 6 ∷ 0 ∷ []) ∷ []
unfolding opened joined_warnings
warnings_joined = refl

-- no junction has an id, so there is nothing that repair could warn of; and no junctions at all
pub warnings_without_ids :
    (joined_warnings (tables (absent ++ absent ++ absent ++ (0 ∷ 7 ∷ []))) [] (1 ∷ 0 ∷ 6 ∷ 0 ∷ []) []
    ≡ (1 ∷ 0 ∷ 6 ∷ 0 ∷ []) ∷ [])
    × (joined_warnings (tables []) [] [] [] ≡ [])
unfolding opened joined_warnings
warnings_without_ids = (refl, refl)

-- ---- the chain: reading, then repair
-- common junction x leads from road a into the start of road b, which comes from a with this contactPoint, and belongs
-- to x; a names nothing
abbrev raw_roads : List ℕ → List ℕ
raw_roads point = no_element ++ no_element ++ ((1 ∷ []) ++ absent ++ a ++ point ++ absent) ++ no_element

abbrev raw_x : RawTables
raw_x = record {
  text = text;
  junctions = x ++ absent ++ absent ++ (0 ∷ 1 ∷ []);
  connections = absent ++ absent ++ a ++ b ++ absent ++ start ++ (0 ∷ 0 ∷ []);
  lane_links = [];
}

-- the tables that reading gives
abbrev chain : List ℕ → Tables
chain point =
    let targets = (target_content text (raw_roads point)).targets in
    map_tables text (a ++ absent ++ take 14 targets ++ (0 ∷ 0 ∷ []) ++ b ++ x ++ drop 14 targets ++ (0 ∷ 0 ∷ [])) []
    (junction_content raw_x).junctions (junction_content raw_x).connections (junction_content raw_x).pairs

-- from a's "end": a gets junction x at its end, with a warning. From its "End", which is no end: reading warns of
-- b's predecessor, and repair leaves the roads as they are
pub repair_by_contact : ((repair_content (chain end)).warnings ≡ 3 ∷ 0 ∷ 0 ∷ 1 ∷ [])
    × ((target_content text (raw_roads end)).warnings ≡ [])
    × ((repair_content (chain big_end)).warnings ≡ [])
    × ((target_content text (raw_roads big_end)).warnings ≡ 4 ∷ no_row ∷ 1 ∷ 0 ∷ [])
    × ((repair_content (chain big_end)).roads ≡ (chain big_end).roads)
unfolding opened broken
repair_by_contact = (refl, refl, refl, refl, refl)

-- ---- the length check, in bits of f64: 1.0, 2.0, 3.0
abbrev f64 : ℕ → Float
f64 k = of_bits binary64 k

abbrev one : Float
one = f64 0x3ff0_0000_0000_0000

abbrev two : Float
two = f64 0x4000_0000_0000_0000

abbrev three : Float
three = f64 0x4008_0000_0000_0000

-- 1 and 2 make 3: not reported; against a length of 2 reported with the sum; the last geometry counts; none;
-- counts that differ
pub lengths_checked : (length_call (one ∷ []) (two ∷ []) three ≡ fine)
    × (length_call (one ∷ []) (two ∷ []) two ≡ reported three)
    × (length_call (two ∷ one ∷ []) (two ∷ two ∷ []) three ≡ fine)
    × (length_call [] [] one ≡ fine) × (length_call (one ∷ []) [] one ≡ uneven 16)
unfolding opened
lengths_checked = (refl, refl, refl, refl, refl)

-- a NaN difference is not reported, an infinite one is
pub odd_lengths : (length_call (one ∷ []) (nan ∷ []) three ≡ fine)
    × (length_call (one ∷ []) (inf false ∷ []) (inf false) ≡ fine)
    × (length_call (one ∷ []) (inf false ∷ []) one ≡ reported (inf false))
unfolding opened
odd_lengths = (refl, refl, refl)

-- "more than 0.01 off": lengths of 0.01 and of the next f64 above it, either way, where the sum is 0
pub at_the_tolerance : (length_call (f64 0 ∷ []) (f64 0 ∷ []) (f64 0x3f84_7ae1_47ae_147b) ≡ fine)
    × (length_call (f64 0 ∷ []) (f64 0 ∷ []) (f64 0x3f84_7ae1_47ae_147c) ≡ reported (f64 0))
    × (length_call (f64 0 ∷ []) (f64 0 ∷ []) (f64 0xbf84_7ae1_47ae_147b) ≡ fine)
    × (length_call (f64 0 ∷ []) (f64 0 ∷ []) (f64 0xbf84_7ae1_47ae_147c) ≡ reported (f64 0))
unfolding opened
at_the_tolerance = (refl, refl, refl, refl)
