-- Corner cases of succession, each worked out by antt.
use mathlib.Core.Path.{◌≡◌, refl}
use mathlib.Core.Bool.{Bool, true, false}
use mathlib.Core.Option.{Option, none, some}
use mathlib.Core.List.{List, [], ◌∷◌}
use Prim.Native.Nat.{ℕ}
use Rattle.geometry.specs.declared.gap.Direction.{Direction}
use Rattle.geometry.specs.declared.gap.Direction.TheVariants.{Backward, Both, Forward}
use Rattle.model.specs.Records.{Connection, Junction, Lane, Map, Road, Span, Target, common}
use Rattle.model.proofs.CardMaps.{a, b, c, connection, j, junction, minus1, pair, road, to_junction, to_road}
use Rattle.model.proofs.Computed.{before, onward}

abbrev map_of : List Road → List Junction → List Lane → Map
map_of rs js ls = record { roads = rs; junctions = js; lanes = ls }

-- a lane with a link at its road's start and one at its end
abbrev lane_at : ℕ → Span → ℕ → ℕ → Direction → Option ℕ → Option ℕ → Lane
lane_at identity n section number direction back on = record {
  identity = identity;
  road = n;
  section = section;
  number = number;
  direction = direction;
  predecessor = back;
  successor = on;
}

-- a lane numbered 1 in section 0, with no links; and with links 1 at both ends
abbrev alone : ℕ → Span → Direction → Lane
alone identity n direction = lane_at identity n 0 1 direction none none

abbrev linked : ℕ → Span → Direction → Lane
linked identity n direction = lane_at identity n 0 1 direction (some 1) (some 1)

-- ---- through junction j
-- road a ends at junction j, which leads into road b by these connections; each has one lane, 7 and 9
abbrev through : List Connection → Direction → Direction → Map
through cs from to =
    map_of (road a none (to_junction j) (0 ∷ []) ∷ road b none none (0 ∷ []) ∷ []) (junction common cs ∷ [])
    (alone 7 a from ∷ alone 9 b to ∷ [])

-- two pairs to one lane
abbrev twice : Bool → List Connection
twice contact = connection a b contact (pair 1 1 ∷ pair 1 1 ∷ []) ∷ []

-- "One-way lists keep duplicates", and the lanes before repeat as often: by two pairs, and by two connections
pub duplicates_kept : (onward (through (twice false) Forward Forward) ≡ (9 ∷ 9 ∷ []) ∷ [] ∷ [])
    × (before (through (twice false) Forward Forward) ≡ [] ∷ (7 ∷ 7 ∷ []) ∷ [])
    × (onward
    (through (connection a b false (pair 1 1 ∷ []) ∷ connection a b true (pair 1 1 ∷ []) ∷ []) Forward Forward)
    ≡ (9 ∷ 9 ∷ []) ∷ [] ∷ [])
unfolding before
duplicates_kept = (refl, refl, refl)

-- of a backward lane too, which comes to the junction at its road's start
pub backward_duplicates_kept : (onward (map_of
    (road a (to_junction j) none (0 ∷ []) ∷ road b none none (0 ∷ []) ∷ []) (junction common (twice true) ∷ [])
    (alone 7 a Backward ∷ alone 9 b Backward ∷ [])) ≡ (9 ∷ 9 ∷ []) ∷ [] ∷ [])
unfolding onward
backward_duplicates_kept = refl

-- "a two-way lane's own exits are filtered by entry contact and deduplicated": a forward lane counts if entered
-- at its start, a backward lane at its end
pub two_way_exits : (onward (through (twice false) Both Forward) ≡ (9 ∷ []) ∷ [] ∷ [])
    × (onward (through (twice true) Both Forward) ≡ [] ∷ [] ∷ [])
    × (onward (through (twice false) Both Backward) ≡ [] ∷ [] ∷ [])
    × (onward (through (twice true) Both Backward) ≡ (9 ∷ []) ∷ [] ∷ [])
    × (before (through (twice false) Both Forward) ≡ [] ∷ (7 ∷ []) ∷ [])
unfolding before
two_way_exits = (refl, refl, refl, refl, refl)

-- a one-way lane is not filtered: "a one-way lane may be linked to a lane of opposite direction"
pub one_way_unfiltered : (onward (through (twice true) Forward Forward) ≡ (9 ∷ 9 ∷ []) ∷ [] ∷ [])
    × (onward (through (twice false) Forward Backward) ≡ (9 ∷ 9 ∷ []) ∷ [] ∷ [])
    × (onward (map_of (road a none (to_road b false) (0 ∷ []) ∷ road b none none (0 ∷ []) ∷ []) []
    (linked 7 a Forward ∷ alone 9 b Backward ∷ [])) ≡ (9 ∷ []) ∷ [] ∷ [])
unfolding onward
one_way_unfiltered = (refl, refl, refl)

-- a pair from another lane number, a connection from another road, a lane that no pair reaches: nothing
pub other_numbers : (onward (through
    (connection a b false (pair 2 1 ∷ pair 1 2 ∷ []) ∷ connection b b false (pair 1 1 ∷ []) ∷ []) Forward
    Forward) ≡ [] ∷ [] ∷ [])
unfolding onward
other_numbers = refl

-- "Of junctions with one name the last row counts": the pair stands in the first row, and in the last
abbrev two_rows : List Connection → List Connection → Map
two_rows one two =
    map_of (road a none (to_junction j) (0 ∷ []) ∷ road b none none (0 ∷ []) ∷ [])
    (junction common one ∷ junction common two ∷ []) (alone 7 a Forward ∷ alone 9 b Forward ∷ [])

pub last_row_counts : (onward (two_rows (twice false) []) ≡ [] ∷ [] ∷ [])
    × (onward (two_rows [] (twice false)) ≡ (9 ∷ 9 ∷ []) ∷ [] ∷ [])
unfolding onward
last_row_counts = (refl, refl)

-- "An unknown road has no lanes": by a target and by a connection; and an unknown junction leads nowhere
pub unknown_leads_nowhere : (onward
    (map_of (road a none (to_road c false) (0 ∷ []) ∷ []) [] (linked 7 a Forward ∷ [])) ≡ [] ∷ [])
    × (onward (through (connection a c false (pair 1 1 ∷ []) ∷ []) Forward Forward) ≡ [] ∷ [] ∷ [])
    × (onward (map_of (road a none (to_junction j) (0 ∷ []) ∷ []) [] (linked 7 a Forward ∷ [])) ≡ [] ∷ [])
unfolding onward
unknown_leads_nowhere = (refl, refl, refl)

-- ---- two-way lanes
-- lane 1 on road a, whose end is linked to b's start, and lane 2 on b, whose start is linked to that target
abbrev joined : Option Target → Direction → Direction → Map
joined back one two =
    map_of (road a none (to_road b false) (0 ∷ []) ∷ road b back none (0 ∷ []) ∷ []) []
    (linked 1 a one ∷ linked 2 b two ∷ [])

-- "a link between two two-way lanes is added in the other direction if missing": added, and not added where it
-- is there
pub back_link : (onward (joined none Both Both) ≡ (2 ∷ []) ∷ (1 ∷ []) ∷ [])
    × (onward (joined (to_road a true) Both Both) ≡ (2 ∷ []) ∷ (1 ∷ []) ∷ [])
    × (before (joined none Both Both) ≡ (2 ∷ []) ∷ (1 ∷ []) ∷ [])
unfolding before
back_link = (refl, refl, refl)

-- not between one-way lanes, nor between a one-way and a two-way lane
pub no_back_link : (onward (joined none Forward Forward) ≡ (2 ∷ []) ∷ [] ∷ [])
    × (onward (joined none Both Forward) ≡ (2 ∷ []) ∷ [] ∷ [])
    × (onward (joined none Forward Both) ≡ (2 ∷ []) ∷ [] ∷ [])
unfolding onward
no_back_link = (refl, refl, refl)

-- a two-way lane leaves by both ends: it finds a forward lane at its start and not at its end, and a two-way
-- lane at both ends once
pub both_ends_of_b : (onward (map_of
    (road a (to_road b true) (to_road b false) (0 ∷ []) ∷ road b none none (0 ∷ []) ∷ []) []
    (linked 1 a Both ∷ alone 2 b Forward ∷ [])) ≡ (2 ∷ []) ∷ [] ∷ [])
    × (onward (map_of (road a (to_road b true) (to_road b false) (0 ∷ []) ∷ road b none none (0 ∷ []) ∷ []) []
    (linked 1 a Both ∷ alone 2 b Both ∷ [])) ≡ (2 ∷ []) ∷ (1 ∷ []) ∷ [])
unfolding onward
both_ends_of_b = (refl, refl)

-- a two-way lane is found by whichever end it is entered at, and finds a lane beyond its road's start as well
-- as one beyond the end
pub either_end : (onward (map_of (road a none (to_road b true) (0 ∷ []) ∷ road b none none (0 ∷ []) ∷ []) []
    (linked 1 a Both ∷ alone 2 b Both ∷ [])) ≡ (2 ∷ []) ∷ (1 ∷ []) ∷ [])
    × (onward (map_of (road a (to_road b true) none (0 ∷ []) ∷ road b none none (0 ∷ []) ∷ []) []
    (linked 1 a Both ∷ alone 2 b Backward ∷ [])) ≡ (2 ∷ []) ∷ [] ∷ [])
unfolding onward
either_end = (refl, refl)

-- within a road the next section is entered at its start, and the one before at its end: two-way lane 4 between
-- lanes of both sections
abbrev between : Direction → Direction → Map
between first last = map_of (road a none none (0 ∷ 1 ∷ 2 ∷ []) ∷ []) []
    (lane_at 3 a 0 1 first none none ∷ lane_at 4 a 1 1 Both (some 1) (some 1) ∷ lane_at 5 a 2 1 last none none ∷ [])

pub two_way_within : (onward (between Forward Forward) ≡ [] ∷ (5 ∷ []) ∷ [] ∷ [])
    × (onward (between Backward Backward) ≡ [] ∷ (3 ∷ []) ∷ [] ∷ [])
    × (onward (between Backward Forward) ≡ [] ∷ (3 ∷ 5 ∷ []) ∷ [] ∷ [])
    × (onward (between Forward Backward) ≡ [] ∷ [] ∷ [] ∷ [])
unfolding onward
two_way_within = (refl, refl, refl, refl)

-- the added link takes its place by identity: lane 2 finds 9 by itself, and 1 is added before it
pub added_in_order : onward (map_of (road a none (to_road b false) (0 ∷ [])
    ∷ road b none (to_road c false) (0 ∷ []) ∷ road c none none (0 ∷ []) ∷ []) []
    (linked 1 a Both ∷ linked 2 b Both ∷ alone 9 c Forward ∷ [])) ≡ (2 ∷ []) ∷ (1 ∷ 9 ∷ []) ∷ [] ∷ []
unfolding onward
added_in_order = refl

-- ---- within a road, and past its last section
-- sections 0, 2 and 5, each with a forward lane 1 and a backward lane 2, linked both ways
abbrev gapped : Map
gapped = map_of (road a none none (0 ∷ 2 ∷ 5 ∷ []) ∷ []) []
    (lane_at 10 a 0 1 Forward (some 1) (some 1) ∷ lane_at 12 a 2 1 Forward (some 1) (some 1)
    ∷ lane_at 15 a 5 1 Forward (some 1) (some 1) ∷ lane_at 20 a 0 2 Backward (some 2) (some 2)
    ∷ lane_at 22 a 2 2 Backward (some 2) (some 2) ∷ lane_at 25 a 5 2 Backward (some 2) (some 2) ∷ [])

-- "Within a road the next section is the next listed number", onward for a forward lane and back for a backward lane
pub next_listed : (onward gapped ≡ (12 ∷ []) ∷ (15 ∷ []) ∷ [] ∷ [] ∷ (20 ∷ []) ∷ (22 ∷ []) ∷ [])
    × (before gapped ≡ [] ∷ (10 ∷ []) ∷ (12 ∷ []) ∷ (22 ∷ []) ∷ (25 ∷ []) ∷ [] ∷ [])
unfolding before
next_listed = (refl, refl)

-- road a is linked to road b, of sections 3 and 4, at a contact
abbrev into_sections : Bool → Option ℕ → Map
into_sections contact link =
    map_of (road a none (to_road b contact) (0 ∷ 1 ∷ []) ∷ road b none none (3 ∷ 4 ∷ []) ∷ []) []
    (lane_at 7 a 1 1 Forward none link ∷ lane_at 8 a 0 1 Forward none link ∷ lane_at 3 b 3 1 Forward none none
    ∷ lane_at 4 b 4 1 Backward none none ∷ [])

-- "past the last one, the target decides": its contact says which section of b is met; without a link nothing is
pub target_decides : (onward (into_sections false (some 1)) ≡ (3 ∷ []) ∷ (7 ∷ []) ∷ [] ∷ [] ∷ [])
    × (onward (into_sections true (some 1)) ≡ (4 ∷ []) ∷ (7 ∷ []) ∷ [] ∷ [] ∷ [])
    × (onward (into_sections false none) ≡ [] ∷ [] ∷ [] ∷ [] ∷ [])
    × (onward (into_sections false (some minus1)) ≡ [] ∷ [] ∷ [] ∷ [] ∷ [])
unfolding onward
target_decides = (refl, refl, refl, refl)

-- a backward lane leaves by its road's start, through the predecessor and by its predecessor link
pub backward_leaves_by_start : onward (map_of (road a (to_road b true) (to_road c false) (0 ∷ [])
    ∷ road b none none (0 ∷ []) ∷ road c none none (0 ∷ []) ∷ []) []
    (lane_at 7 a 0 1 Backward (some 2) (some 1) ∷ lane_at 8 b 0 2 Backward none none
    ∷ lane_at 9 c 0 1 Backward none none ∷ [])) ≡ (8 ∷ []) ∷ [] ∷ [] ∷ []
unfolding onward
backward_leaves_by_start = refl

-- "Lists ascend by identity", whatever the order of pairs and of lane rows
abbrev fan : Map
fan =
    map_of (road a none (to_junction j) (0 ∷ []) ∷ road b none none (0 ∷ []) ∷ [])
    (junction common (connection a b false (pair 1 1 ∷ pair 1 2 ∷ pair 1 3 ∷ pair 2 1 ∷ []) ∷ []) ∷ [])
    (lane_at 7 a 0 1 Forward none none ∷ lane_at 5 a 0 2 Forward none none ∷ lane_at 12 b 0 1 Forward none none
    ∷ lane_at 3 b 0 2 Forward none none ∷ lane_at 8 b 0 3 Forward none none ∷ [])

pub lists_ascend : (onward fan ≡ (3 ∷ 8 ∷ 12 ∷ []) ∷ (12 ∷ []) ∷ [] ∷ [] ∷ [] ∷ [])
    × (before fan ≡ [] ∷ [] ∷ (5 ∷ 7 ∷ []) ∷ (7 ∷ []) ∷ (7 ∷ []) ∷ [])
unfolding before
lists_ascend = (refl, refl)
