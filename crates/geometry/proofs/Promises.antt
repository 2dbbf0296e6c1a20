-- What holds of every root, distance and gap, over the definitions. The contracts of `root`, `distance` and
-- `link_gap` are equations with these definitions, so it holds of what the code returns. Assumes nothing.
use mathlib.Core.Path.{◌≡◌, refl, subst}
use mathlib.Core.Logic.{◌⊎◌}
use mathlib.Core.Bool.{false, not}
use mathlib.Core.List.{List, [], ◌∷◌, map, Memᴰ}
use lib.Dec.{T}
use lib.Ieee.{Float, inf, binary32, of_bits, is_nan, fits}
use lib.Ieee.Positive.{positive}
use Rattle.geometry.specs.declared.segment.Point.{Point}
use Rattle.geometry.specs.declared.segment.Closest.{Closest}
use Rattle.geometry.specs.declared.gap.Direction.{Direction}
use Rattle.geometry.specs.Root.{Nearest, root_of, below_zero, unsigned}
use Rattle.geometry.specs.Segment.{nought, distance_of, closest_of}
use Rattle.geometry.specs.Gap.{least_from, gap_of, flipped, swapped, Rearranged}
use Rattle.geometry.specs.Gap.{exits_of, entries_of, best_from, unmet, end_pairs, closest_ends}
use Rattle.geometry.proofs.RootNearest.{root_is_nearest, nearest_is_root}
use Rattle.geometry.proofs.Signs.{not_below}
use Rattle.geometry.proofs.GapOrder.{Each, Plain, root_fits, distance_plain, inf_plain, least_rearranged}
use Rattle.geometry.proofs.GapOrder.{gap_no_nan, gap_from_turned, gap_to_turned}
use Rattle.geometry.proofs.Places.{Within, within_number, places_within}
use Rattle.geometry.proofs.PlaceOrder.{Fair, pair_fair, places_shown, any_order}
use Rattle.geometry.proofs.PlaceOrder.{from_turned_shown, to_turned_shown}
use Rattle.geometry.proofs.PlaceOrder.{ends_gap, ends_within, infinite_nought}
use Rattle.geometry.proofs.BestPair.{NoneBetter, ends_one_of, ends_none_better}

-- ---- (a) Each value of the format above zero has one nearest root, by whole-number midpoints and with no tie:
-- it is `root_of x`, and no other value of the format is nearest.
pub root_nearest : (x : Float) → T (fits binary32 x) → T (positive x)
    → T (fits binary32 (root_of x))
    × Nearest x (root_of x)
    × ((y : Float) → T (fits binary32 y) → Nearest x y → y ≡ root_of x)
root_nearest x f p = (root_fits x f, root_is_nearest x f p, λ y g near. nearest_is_root x y f p g near)

-- ---- (b) A distance has no sign, for any points at all, NaN and infinities among their coordinates: it is
-- never below zero and never -0. It may be a NaN.
minus_zero_signed : T (unsigned (of_bits binary32 0x8000_0000)) → ⊥
unfolding of_bits unsigned
minus_zero_signed h = h

pub distance_no_sign : (first second : List Point)
    → (below_zero (distance_of first second) ≡ false)
    × (distance_of first second ≡ of_bits binary32 0x8000_0000 → ⊥)
distance_no_sign first second = (
  not_below (distance_of first second) (distance_plain first second).no_sign,
  λ (e : distance_of first second ≡ of_bits binary32 0x8000_0000).
      minus_zero_signed (subst (λ (d : Float). T (unsigned d)) e (distance_plain first second).no_sign),
)

-- ---- (c) The least of any list of distances does not depend on their order.
-- P of what f gives of each pair of segments
each_of : {A : Type 0} (P : A → Type 0) (f : List Point → List Point → A)
    → ((first second : List Point) → P (f first second))
    → (ps : List (List Point × List Point)) → Each P (map (λ (p : List Point × List Point). f p.0 p.1) ps)
each_of P f holds [] = tt
each_of P f holds (p ∷ ps) = (holds p.0 p.1, each_of P f holds ps)

-- the distances of some pairs of segments
abbrev pub distances : List (List Point × List Point) → List Float
distances ps = map (λ (p : List Point × List Point). distance_of p.0 p.1) ps

pub least_in_any_order : (ps : List (List Point × List Point)) {ds : List Float} → Rearranged Float (distances ps) ds
    → least_from (inf false) (distances ps) ≡ least_from (inf false) ds
least_in_any_order ps r = least_rearranged (inf false) inf_plain (each_of Plain distance_of distance_plain ps) r

-- ---- (d) A gap is never a NaN.
pub gap_never_nan : (from : List (List Point)) (leaves : Direction) (to : List (List Point))
    (enters : Direction) → T (not (is_nan (gap_of from leaves to enters)))
gap_never_nan from leaves to enters = gap_no_nan from to leaves enters

-- ---- (e) The gap is the same when either lane is turned round.
pub gap_turned : (from : List (List Point)) (leaves : Direction) (to : List (List Point)) (enters : Direction)
    → (gap_of (swapped from) (flipped leaves) to enters ≡ gap_of from leaves to enters)
    × (gap_of from leaves (swapped to) (flipped enters) ≡ gap_of from leaves to enters)
gap_turned from leaves to enters = (gap_from_turned from to leaves enters, gap_to_turned from to leaves enters)

-- ---- (f) The distance that stands beside the places is the distance.
pub distance_of_closest : (first second : List Point) → (closest_of first second).gap ≡ distance_of first second
distance_of_closest first second = refl

-- ---- (g) Where a distance is a number, infinity included, its two places lie from 0 to 1.
pub places_from_0_to_1 : (first second : List Point) → T (not (is_nan (distance_of first second)))
    → Within (closest_of first second).u × Within (closest_of first second).v
places_from_0_to_1 first second number = places_within first second number

-- ---- (h) The gap shown with the places is the gap, the least of the distances.
pub gap_of_choice : (from : List (List Point)) (leaves : Direction) (to : List (List Point)) (enters : Direction)
    → (closest_ends from leaves to enters).gap ≡ gap_of from leaves to enters
gap_of_choice from leaves to enters = ends_gap from leaves to enters

-- ---- (i) With an infinite gap both places are 0.
pub nought_at_infinity : (from : List (List Point)) (leaves : Direction) (to : List (List Point))
    (enters : Direction) → (closest_ends from leaves to enters).gap ≡ inf false
    → ((closest_ends from leaves to enters).u ≡ nought) × ((closest_ends from leaves to enters).v ≡ nought)
nought_at_infinity from leaves to enters infinite = infinite_nought from leaves to enters infinite

-- ---- (j) The places that a row shows are the same when either lane is turned round, two-way lanes too.
pub places_turned : (from : List (List Point)) (leaves : Direction) (to : List (List Point)) (enters : Direction)
    → (places_shown (closest_ends (swapped from) (flipped leaves) to enters)
    ≡ places_shown (closest_ends from leaves to enters))
    × (places_shown (closest_ends from leaves (swapped to) (flipped enters))
    ≡ places_shown (closest_ends from leaves to enters))
places_turned from leaves to enters =
    (from_turned_shown from leaves to enters, to_turned_shown from leaves to enters)

-- ---- (k) The places shown with a gap always lie from 0 to 1, and so are numbers.
pub ends_from_0_to_1 : (from : List (List Point)) (leaves : Direction) (to : List (List Point)) (enters : Direction)
    → Within (closest_ends from leaves to enters).u × Within (closest_ends from leaves to enters).v
ends_from_0_to_1 from leaves to enters = ends_within from leaves to enters

pub places_are_numbers : (from : List (List Point)) (leaves : Direction) (to : List (List Point)) (enters : Direction)
    → T (not (is_nan (closest_ends from leaves to enters).u)) × T (not (is_nan (closest_ends from leaves to enters).v))
places_are_numbers from leaves to enters =
    let within = ends_within from leaves to enters in
    (within_number _ within.0, within_number _ within.1)

-- ---- (l) The choice does not depend on the order of candidates: its gap, and its places as a row shows them.
-- the distances of some pairs of segments with their places
abbrev pub closests : List (List Point × List Point) → List Closest
closests ps = map (λ (p : List Point × List Point). closest_of p.0 p.1) ps

pub choice_in_any_order : (ps : List (List Point × List Point)) {cs : List Closest}
    → Rearranged Closest (closests ps) cs
    → ((best_from unmet (closests ps)).gap ≡ (best_from unmet cs).gap)
    × (places_shown (best_from unmet (closests ps)) ≡ places_shown (best_from unmet cs))
choice_in_any_order ps order = any_order (each_of Fair closest_of pair_fair ps) order

-- ---- (m) THE BEST PAIR. The choice is one of the pairs of ends, or none of them, and no pair is better.
pub best_pair : (from : List (List Point)) (leaves : Direction) (to : List (List Point)) (enters : Direction)
    → ((closest_ends from leaves to enters ≡ unmet)
    ⊎ Memᴰ (closest_ends from leaves to enters) (end_pairs (exits_of leaves from) (entries_of enters to)))
    × NoneBetter (closest_ends from leaves to enters) (end_pairs (exits_of leaves from) (entries_of enters to))
best_pair from leaves to enters =
    (ends_one_of from leaves to enters, ends_none_better from leaves to enters)
