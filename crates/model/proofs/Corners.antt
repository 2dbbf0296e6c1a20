-- Corner cases of repair, succession and reversal together: why rule 14 stands, what a later row of a name
-- hides, and where repair and reversal differ in a word.
use mathlib.Core.Path.{◌≡◌, refl}
use mathlib.Core.Bool.{Bool, true, false}
use mathlib.Core.Option.{none}
use mathlib.Core.List.{List, [], ◌∷◌, map}
use lib.Dec.{eqb}
use Rattle.geometry.specs.declared.gap.Direction.TheVariants.{Forward}
use Rattle.model.specs.Records.{Connection, Junction, Map, Span, common, direct}
use Rattle.model.specs.Reversal.{reverse_road}
use Rattle.model.proofs.CardMaps.{a, b, connection, j, j_at, junction, lane, pair, road, to_junction, to_road}
use Rattle.model.proofs.Computed.{onward, repaired, turned}

-- road a is marked
abbrev marks_a : Span → Bool
marks_a n = eqb n.start 0

-- road a names junction j at both ends, road b at its end
abbrev two_ends : List Junction → Map
two_ends js = record {
  roads = road a (to_junction j) (to_junction j) (0 ∷ 1 ∷ []) ∷ road b none (to_junction j) (0 ∷ []) ∷ [];
  junctions = js;
  lanes = lane 10 a 0 1 Forward none ∷ lane 11 a 1 1 Forward none ∷ lane 20 b 0 1 Forward none ∷ [];
}

abbrev from_a_to_b : List Connection
from_a_to_b = connection a b true (pair 1 1 ∷ []) ∷ []

-- Rule 14 is needed: lane 20 runs on to 11, and to 10 once road a is reversed.
pub both_ends_lem : (onward (repaired (two_ends (junction direct from_a_to_b ∷ []))) ≡ [] ∷ (20 ∷ []) ∷ (11 ∷ []) ∷ [])
    × (onward (repaired (turned marks_a (two_ends (junction direct from_a_to_b ∷ [])))) ≡ [] ∷ (20 ∷ []) ∷ (10 ∷ [])
    ∷ [])
unfolding repaired turned onward
both_ends_lem = (refl, refl)

-- A direct row that a later common row of its name hides: the lists are the same, and rule 14, which speaks of
-- any direct junction, refuses all the same.
pub hidden_row : (onward (repaired (two_ends (junction direct from_a_to_b ∷ junction common from_a_to_b ∷ [])))
    ≡ [] ∷ (20 ∷ []) ∷ [] ∷ [])
    × (onward (repaired (turned marks_a (two_ends (junction direct from_a_to_b ∷ junction common from_a_to_b ∷ []))))
    ≡ [] ∷ (20 ∷ []) ∷ [] ∷ [])
unfolding repaired turned onward
hidden_row = (refl, refl)

-- Road a lacks junction j at its end, where road b links back to it.
abbrev lacking : Map
lacking = record {
  roads = road a none none (0 ∷ []) ∷ road b (to_road a true) none (0 ∷ []) ∷ [];
  junctions = junction common (connection a b false [] ∷ []) ∷ [];
  lanes = [];
}

-- Repair and reversal differ in the contact of the target that repair adds, which nothing reads: repaired first
-- it has contact end and keeps it, reversed first it has contact start.
pub in_either_order : (map (reverse_road marks_a) (repaired lacking).roads
    ≡ road a (j_at true) none (0 ∷ []) ∷ road b (to_road a false) none (0 ∷ []) ∷ [])
    × ((repaired (turned marks_a lacking)).roads
    ≡ road a (j_at false) none (0 ∷ []) ∷ road b (to_road a false) none (0 ∷ []) ∷ [])
unfolding repaired turned
in_either_order = (refl, refl)
