-- Corner cases of reversal, each worked out by antt.
use mathlib.Core.Path.{◌≡◌, refl}
use mathlib.Core.Bool.{Bool, true, false, ◌||◌}
use mathlib.Core.Option.{Option, none, some}
use mathlib.Core.List.{List, [], ◌∷◌}
use Prim.Native.Nat.{ℕ}
use lib.Dec.{eqb}
use Rattle.geometry.specs.declared.gap.Direction.{Direction}
use Rattle.geometry.specs.declared.gap.Direction.TheVariants.{Backward, Both, Forward}
use Rattle.model.specs.Records.{EdgedLane, Junction, Lane, Map, Road, Span, Target, common}
use Rattle.model.specs.Reversal.{marked, negated}
use Rattle.model.proofs.CardMaps.{a, b, c, connection, end_at, j, j_at, junction, minus1, pair, road}
use Rattle.model.proofs.CardMaps.{to_junction, to_road}
use Rattle.model.proofs.Computed.{alike, turned, turned_edged}

-- the marks of one road, of roads a and b, and of none
abbrev only : Span → Span → Bool
only m n = eqb m.start n.start

abbrev a_and_b : Span → Bool
a_and_b n = only a n || only b n

abbrev nobody : Span → Bool
nobody n = false

-- "One mark for each road": the mark in a road's row is that of its name; an unknown road has none
pub marks_by_name : (marked alike (road a none none [] ∷ road b none none [] ∷ []) (0 ∷ 1 ∷ []) a ≡ false)
    × (marked alike (road a none none [] ∷ road b none none [] ∷ []) (0 ∷ 1 ∷ []) b ≡ true)
    × (marked alike (road a none none [] ∷ road b none none [] ∷ []) (1 ∷ 1 ∷ []) c ≡ false)
unfolding alike
marks_by_name = (refl, refl, refl)

-- ---- roads
abbrev roads_after : (Span → Bool) → Road → List Road
roads_after mk r = (turned mk (record { roads = r ∷ []; junctions = []; lanes = [] })).roads

-- "section number i becomes first + last - i, listed ascending", of a marked road
pub sections_mirrored : (roads_after (only a) (road a none none (0 ∷ 1 ∷ 5 ∷ []))
    ≡ road a none none (0 ∷ 4 ∷ 5 ∷ []) ∷ [])
    × (roads_after (only a) (road a none none (3 ∷ 4 ∷ 9 ∷ [])) ≡ road a none none (3 ∷ 8 ∷ 9 ∷ []) ∷ [])
    × (roads_after (only a) (road a none none []) ≡ road a none none [] ∷ [])
    × (roads_after (only b) (road a none none (0 ∷ 1 ∷ 5 ∷ [])) ≡ road a none none (0 ∷ 1 ∷ 5 ∷ []) ∷ [])
unfolding turned
sections_mirrored = (refl, refl, refl, refl)

-- "targets swap"; "the contact of a target of kind road flips if the road it names is marked": with a marked, b
-- marked, and both
pub targets : (roads_after (only a) (road a (to_road b true) (to_road c false) [])
    ≡ road a (to_road c false) (to_road b true) [] ∷ [])
    × (roads_after (only b) (road a (to_road b true) (to_road c false) [])
    ≡ road a (to_road b false) (to_road c false) [] ∷ [])
    × (roads_after a_and_b (road a (to_road b true) (to_road c false) [])
    ≡ road a (to_road c false) (to_road b false) [] ∷ [])
    × (roads_after (only a) (road a (to_road a true) none []) ≡ road a none (to_road a false) [] ∷ [])
unfolding turned
targets = (refl, refl, refl, refl)

-- a target with contact end
abbrev end_of : Bool → Bool → Span → Option Target
end_of is_junction given n =
    some (record { is_junction = is_junction; name = n; contact = true; given = given; along = true })

-- the contact of a junction target stays, also where a marked road has its name; a contact that is not given
-- flips as any other; given and along stay
pub other_targets : (roads_after (only a) (road a (j_at true) none []) ≡ road a none (j_at true) [] ∷ [])
    × (roads_after (only b) (road a (end_of true true b) none []) ≡ road a (end_of true true b) none [] ∷ [])
    × (roads_after (only b) (road a (end_of false false b) none [])
    ≡ road a (some (record { is_junction = false; name = b; contact = false; given = false; along = true })) none
    [] ∷ [])
unfolding turned
other_targets = (refl, refl, refl)

-- ---- junctions
-- lane number -2
abbrev minus2 : ℕ
minus2 = 4294967294

abbrev connection_after : (Span → Bool) → List Junction
connection_after mk =
    (turned mk (record
    { roads = []; junctions = junction common (connection a b false (pair 1 2 ∷ []) ∷ []) ∷ []; lanes = [] })
    ).junctions

-- "that of a connection if its connecting road is"; "a pair's from changes sign if the incoming road is marked,
-- its to if the connecting road is"
pub connections : (connection_after (only a) ≡ junction common (connection a b false (pair minus1 2 ∷ []) ∷ []) ∷ [])
    × (connection_after (only b) ≡ junction common (connection a b true (pair 1 minus2 ∷ []) ∷ []) ∷ [])
    × (connection_after a_and_b ≡ junction common (connection a b true (pair minus1 minus2 ∷ []) ∷ []) ∷ [])
    × (connection_after (only c) ≡ junction common (connection a b false (pair 1 2 ∷ []) ∷ []) ∷ [])
unfolding turned
connections = (refl, refl, refl, refl)

-- 0 has no sign, and the sign changes both ways; -2,147,483,648 is its own negative, which is why refusal 13 stands
pub signs : (negated 0 ≡ 0)
    × (negated 1 ≡ minus1)
    × (negated minus1 ≡ 1)
    × (negated 2147483647 ≡ 2147483649)
    × (negated 2147483648 ≡ 2147483648)
unfolding negated
signs = (refl, refl, refl, refl, refl)

-- ---- lanes
abbrev lane_at : ℕ → ℕ → Direction → Option ℕ → Option ℕ → Lane
lane_at section number direction back on =
    record {
      identity = 7;
      road = a;
      section = section;
      number = number;
      direction = direction;
      predecessor = back;
      successor = on;
    }

-- a lane of road a, which has two targets and sections 0, 1 and 5
abbrev lanes_after : (Span → Bool) → Option Target → Option Target → Lane → List Lane
lanes_after mk before after l =
    (turned mk (record { roads = road a before after (0 ∷ 1 ∷ 5 ∷ []) ∷ []; junctions = []; lanes = l ∷ [] })
    ).lanes

-- "its lanes' sections follow; forward and backward swap; .. lane numbers change sign"
pub lane_follows : (lanes_after (only a) none none (lane_at 1 minus1 Forward none none)
    ≡ lane_at 4 1 Backward none none ∷ [])
    × (lanes_after (only a) none none (lane_at 0 2 Backward none none) ≡ lane_at 5 minus2 Forward none none ∷ [])
    × (lanes_after (only a) none none (lane_at 5 0 Both none none) ≡ lane_at 0 0 Both none none ∷ [])
    × (lanes_after (only b) none none (lane_at 1 minus1 Forward none none) ≡ lane_at 1 minus1 Forward none none ∷ [])
unfolding turned
lane_follows = (refl, refl, refl, refl)

-- "a lane link number changes sign if the road it leads to is marked (its own road if a further section lies
-- that way": in section 1 both links lead to a, in section 0 the one onward, in section 5 the one back;
-- "successor and predecessor links swap"
pub links_within : (lanes_after (only a) (to_road b true) (to_road c false) (lane_at 1 1 Forward (some 1) (some 2))
    ≡ lane_at 4 minus1 Backward (some minus2) (some minus1) ∷ [])
    × (lanes_after (only a) (to_road b true) (to_road c false) (lane_at 0 1 Forward (some 1) (some 2))
    ≡ lane_at 5 minus1 Backward (some minus2) (some 1) ∷ [])
    × (lanes_after (only a) (to_road b true) (to_road c false) (lane_at 5 1 Forward (some 1) (some 2))
    ≡ lane_at 0 minus1 Backward (some 2) (some minus1) ∷ [])
unfolding turned
links_within = (refl, refl, refl)

-- "else the road that end's target names": with b marked the link back from section 0 changes sign, with c
-- marked the link onward from section 5; with a and b marked each by its own
pub links_across : (lanes_after (only b) (to_road b true) (to_road c false) (lane_at 0 1 Forward (some 1) (some 2))
    ≡ lane_at 0 1 Forward (some minus1) (some 2) ∷ [])
    × (lanes_after (only c) (to_road b true) (to_road c false) (lane_at 5 1 Forward (some 1) (some 2))
    ≡ lane_at 5 1 Forward (some 1) (some minus2) ∷ [])
    × (lanes_after (only b) (to_road b true) (to_road b false) (lane_at 1 1 Forward (some 1) (some 2))
    ≡ lane_at 1 1 Forward (some 1) (some 2) ∷ [])
    × (lanes_after a_and_b (to_road b true) (to_road c false) (lane_at 0 1 Forward (some 1) (some 2))
    ≡ lane_at 5 minus1 Backward (some minus2) (some minus1) ∷ [])
unfolding turned
links_across = (refl, refl, refl, refl)

-- "if of kind road": past a junction, or where there is no target, the number stays, and the links swap all the same
pub links_elsewhere : (lanes_after (only b) (end_of true true b) none (lane_at 0 1 Forward (some 1) none)
    ≡ lane_at 0 1 Forward (some 1) none ∷ [])
    × (lanes_after (only a) (to_junction j) none (lane_at 0 1 Forward (some 1) none)
    ≡ lane_at 5 minus1 Backward none (some 1) ∷ [])
    × (lanes_after (only a) none none (lane_at 5 1 Forward none (some 2)) ≡ lane_at 0 minus1 Backward (some 2) none
    ∷ [])
unfolding turned
links_elsewhere = (refl, refl, refl)

-- "the six edge floats at start and end swap", of a lane of a marked road
abbrev edges_after : (Span → Bool) → EdgedLane
edges_after mk =
    turned_edged mk (record { roads = []; junctions = []; lanes = [] })
    (record { lane = lane_at 0 1 Both none none; at_start = end_at 1; at_end = end_at 2 })

pub edges : ((edges_after (only a)).at_start ≡ end_at 2)
    × ((edges_after (only a)).at_end ≡ end_at 1)
    × ((edges_after (only b)).at_start ≡ end_at 1)
    × ((edges_after (only b)).at_end ≡ end_at 2)
unfolding turned_edged
edges = (refl, refl, refl, refl)

-- with no road marked all stays
abbrev small : Map
small = record {
  roads = road a (to_road b true) (to_junction j) (0 ∷ 1 ∷ 5 ∷ []) ∷ road b none (to_road a false) (2 ∷ []) ∷ [];
  junctions = junction common (connection a b false (pair 1 2 ∷ []) ∷ []) ∷ [];
  lanes = lane_at 1 1 Forward (some 1) (some 2) ∷ lane_at 0 2 Backward (some 2) none ∷ [];
}

pub no_marks : turned nobody small ≡ small
unfolding turned
no_marks = refl
