-- Corner cases of the tables, each worked out by antt: the words of a map, and the map that they mean.
use mathlib.Core.Path.{◌≡◌, refl}
use mathlib.Core.Bool.{Bool, true, false}
use mathlib.Core.Option.{none, some}
use mathlib.Core.List.{List, [], ◌∷◌, ◌++◌, map}
use Prim.Native.Nat.{ℕ}
use lib.ListN.{replicate}
use Rattle.geometry.specs.declared.gap.Direction.TheVariants.{Backward, Both}
use Rattle.model.specs.Records.{EdgedLane, Lane, Map, common, direct, virtual}
use Rattle.model.specs.Rules.{connection_worded, junction_worded, lane_worded, road_worded, target_worded}
use Rattle.model.specs.Tables.{Tables, absent_start, edged_lanes_of, map_of, name_in, tables_of}
use Rattle.model.proofs.CardMaps.{a, b, c, connection, end_at, j_at, junction, k, lane, minus1, pair, road, text}
use Rattle.model.proofs.Computed.{broken}

-- a lane with both links, and one with none
abbrev linked_lane : Lane
linked_lane =
    record {
      identity = 70;
      road = a;
      section = 2;
      number = minus1;
      direction = Backward;
      predecessor = some 8;
      successor = some 9;
    }

abbrev lone_lane : Lane
lone_lane = lane 60 c 1 0 Both none

-- three roads, the second without a section, of junction k, and with a link along road c of which no contact is
-- given; three junctions
abbrev several : Map
several = record {
  roads = road a none (j_at true) (0 ∷ 2 ∷ [])
      ∷ record {
        name = b;
        junction = some k;
        predecessor = some (record { is_junction = false; name = c; contact = false; given = false; along = true });
        successor = none;
        sections = [];
      }
      ∷ road c none none (1 ∷ [])
      ∷ [];
  junctions = junction common (connection a b false (pair 11 12 ∷ pair 13 14 ∷ []) ∷ connection b a true [] ∷ [])
      ∷ record { name = k; kind = direct; connections = connection c a true (pair 15 16 ∷ []) ∷ [] }
      ∷ junction virtual []
      ∷ [];
  lanes = linked_lane ∷ lone_lane ∷ [];
}

abbrev edged : List EdgedLane
edged =
    record { lane = linked_lane; at_start = end_at 1; at_end = end_at 2 }
    ∷ record { lane = lone_lane; at_start = end_at 3; at_end = end_at 4 } ∷ []

abbrev words : Tables
words = record {
  text = text;
  roads = (0 ∷ 1 ∷ absent_start ∷ 0 ∷ 0 ∷ 0 ∷ 0 ∷ 0 ∷ 0 ∷ 0 ∷ 0 ∷ 1 ∷ 1 ∷ 3 ∷ 1 ∷ 1 ∷ 1 ∷ 0 ∷ 0 ∷ 2 ∷ [])
      ++ (1 ∷ 1 ∷ 4 ∷ 1 ∷ 1 ∷ 0 ∷ 2 ∷ 1 ∷ 0 ∷ 0 ∷ 1 ∷ 0 ∷ 0 ∷ 0 ∷ 0 ∷ 0 ∷ 0 ∷ 0 ∷ 2 ∷ 0 ∷ [])
      ++ (2 ∷ 1 ∷ absent_start ∷ 0 ∷ 0 ∷ 0 ∷ 0 ∷ 0 ∷ 0 ∷ 0 ∷ 0 ∷ 0 ∷ 0 ∷ 0 ∷ 0 ∷ 0 ∷ 0 ∷ 0 ∷ 2 ∷ 1 ∷ []);
  sections = 0 ∷ 2 ∷ 1 ∷ [];
  junctions = 3 ∷ 1 ∷ 0 ∷ 0 ∷ 2 ∷ 4 ∷ 1 ∷ 1 ∷ 2 ∷ 1 ∷ 3 ∷ 1 ∷ 2 ∷ 3 ∷ 0 ∷ [];
  connections = (0 ∷ 1 ∷ 1 ∷ 1 ∷ 0 ∷ 0 ∷ 2 ∷ []) ++ (1 ∷ 1 ∷ 0 ∷ 1 ∷ 1 ∷ 2 ∷ 0 ∷ [])
      ++ (2 ∷ 1 ∷ 0 ∷ 1 ∷ 1 ∷ 2 ∷ 1 ∷ []);
  pairs = 11 ∷ 12 ∷ 13 ∷ 14 ∷ 15 ∷ 16 ∷ [];
  lanes = 70 ∷ 0 ∷ 1 ∷ 2 ∷ minus1 ∷ 1 ∷ 1 ∷ 9 ∷ 1 ∷ 8 ∷ 60 ∷ 2 ∷ 1 ∷ 1 ∷ 0 ∷ 2 ∷ 0 ∷ 0 ∷ 0 ∷ 0 ∷ [];
  edges = end_at 1 ++ end_at 2 ++ end_at 3 ++ end_at 4;
}

-- the words that "The map tables" says, each part beginning where the one before it ends
pub words_of_a_map : tables_of text several edged ≡ words
unfolding broken
words_of_a_map = refl

-- and they mean that map
pub map_of_words : (map_of words ≡ several) × (edged_lanes_of words ≡ edged)
unfolding broken
map_of_words = (refl, refl)

-- "A name of length 0 is present and is not absent"; so is one of length 1 at the start of the absent name
pub absent_name : (name_in (absent_start ∷ 0 ∷ []) 0 ≡ none)
    × (name_in (5 ∷ 0 ∷ []) 0 ≡ some (record { start = 5; size = 0 }))
    × (name_in (absent_start ∷ 1 ∷ []) 0 ≡ some (record { start = absent_start; size = 1 }))
absent_name = (refl, refl, refl)

-- ---- "2 a word or name breaks the table rules": each row that follows a sound one breaks one of them
-- present, kind, name, contact, given, along: a present flag 2; a kind 2; a name past the text's end; a
-- contact, a given flag, an along flag 2
pub present_target : (target_worded text 1 1 4 1 1 1 1 ≡ true)
    × (target_worded text 2 1 4 1 1 1 1 ≡ false)
    × (target_worded text 1 2 4 1 1 1 1 ≡ false)
    × (target_worded text 1 1 4 2 1 1 1 ≡ false)
    × (target_worded text 1 1 4 1 2 1 1 ≡ false)
    × (target_worded text 1 1 4 1 1 2 1 ≡ false)
    × (target_worded text 1 1 4 1 1 1 2 ≡ false)
unfolding broken
present_target = (refl, refl, refl, refl, refl, refl, refl)

-- "Where it is 1 the name is present"; the contact may be end where none is given
pub name_and_contact : (target_worded text 1 0 absent_start 0 0 0 0 ≡ false) × (target_worded text 1 0 5 0 1 0 0 ≡ true)
unfolding broken
name_and_contact = (refl, refl)

-- "Where present is 0 the other six words are 0"
pub no_target_lem : (target_worded text 0 0 0 0 0 0 0 ≡ true)
    × (target_worded text 0 1 0 0 0 0 0 ≡ false)
    × (target_worded text 0 0 1 0 0 0 0 ≡ false)
    × (target_worded text 0 0 0 1 0 0 0 ≡ false)
    × (target_worded text 0 0 0 0 1 0 0 ≡ false)
    × (target_worded text 0 0 0 0 0 1 0 ≡ false)
    × (target_worded text 0 0 0 0 0 0 1 ≡ false)
unfolding broken
no_target_lem = (refl, refl, refl, refl, refl, refl, refl)

-- a road's row by its name, its junction name and the flags of its targets
abbrev road_tests : List ℕ → ℕ → ℕ → Bool
road_tests names before after =
    road_worded text (names ++ (before ∷ replicate 6 0) ++ (after ∷ replicate 6 0) ++ (0 ∷ 0 ∷ []))

-- a road's junction name may be absent and its name may not; both lie in the text; both targets keep their rule
pub road_words_lem : (road_tests (0 ∷ 1 ∷ absent_start ∷ 0 ∷ []) 0 0 ≡ true)
    × (road_tests (0 ∷ 1 ∷ 3 ∷ 1 ∷ []) 1 1 ≡ true)
    × (road_tests (absent_start ∷ 0 ∷ absent_start ∷ 0 ∷ []) 0 0 ≡ false)
    × (road_tests (0 ∷ 6 ∷ absent_start ∷ 0 ∷ []) 0 0 ≡ false)
    × (road_tests (0 ∷ 1 ∷ absent_start ∷ 1 ∷ []) 0 0 ≡ false)
    × (road_tests (0 ∷ 1 ∷ 5 ∷ 1 ∷ []) 0 0 ≡ false)
    × (road_tests (0 ∷ 1 ∷ absent_start ∷ 0 ∷ []) 2 0 ≡ false)
    × (road_tests (0 ∷ 1 ∷ absent_start ∷ 0 ∷ []) 0 2 ≡ false)
unfolding broken
road_words_lem = (refl, refl, refl, refl, refl, refl, refl, refl)

-- a junction's name and kind; a connection's names and contact
pub words_of_junctions : (map (junction_worded text)
    ((3 ∷ 1 ∷ 2 ∷ 0 ∷ 0 ∷ []) ∷ (5 ∷ 1 ∷ 2 ∷ 0 ∷ 0 ∷ []) ∷ (3 ∷ 1 ∷ 3 ∷ 0 ∷ 0 ∷ []) ∷ [])
    ≡ true ∷ false ∷ false ∷ [])
    × (map (connection_worded text)
    ((0 ∷ 1 ∷ 1 ∷ 1 ∷ 1 ∷ 0 ∷ 0 ∷ []) ∷ (5 ∷ 1 ∷ 1 ∷ 1 ∷ 1 ∷ 0 ∷ 0 ∷ [])
    ∷ (0 ∷ 1 ∷ absent_start ∷ 0 ∷ 1 ∷ 0 ∷ 0 ∷ []) ∷ (0 ∷ 1 ∷ 1 ∷ 1 ∷ 2 ∷ 0 ∷ 0 ∷ []) ∷ [])
    ≡ true ∷ false ∷ false ∷ false ∷ [])
unfolding broken
words_of_junctions = (refl, refl)

-- a lane's row by its road name, direction and four link words
abbrev lane_tests : ℕ → ℕ → List ℕ → Bool
lane_tests start direction links = lane_worded text ((7 ∷ start ∷ 1 ∷ 0 ∷ 1 ∷ direction ∷ []) ++ links)

-- a lane's road name and direction; its link flags, and "a number whose flag is 0 is 0"
pub lane_words_lem : (lane_tests 0 2 (1 ∷ 9 ∷ 1 ∷ 8 ∷ []) ≡ true)
    × (lane_tests 5 2 (1 ∷ 9 ∷ 1 ∷ 8 ∷ []) ≡ false)
    × (lane_tests 0 3 (1 ∷ 9 ∷ 1 ∷ 8 ∷ []) ≡ false)
    × (lane_tests 0 2 (2 ∷ 0 ∷ 1 ∷ 8 ∷ []) ≡ false)
    × (lane_tests 0 2 (0 ∷ 9 ∷ 1 ∷ 8 ∷ []) ≡ false)
    × (lane_tests 0 2 (1 ∷ 9 ∷ 2 ∷ 0 ∷ []) ≡ false)
    × (lane_tests 0 2 (1 ∷ 9 ∷ 0 ∷ 8 ∷ []) ≡ false)
    × (lane_tests 0 2 (0 ∷ 0 ∷ 0 ∷ 0 ∷ []) ≡ true)
unfolding broken
lane_words_lem = (refl, refl, refl, refl, refl, refl, refl, refl)
