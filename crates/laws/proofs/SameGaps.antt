-- On a map reversed and then repaired the lists of all lanes are those of the map repaired; and reversed lanes
-- have the gap rows of the lanes, to the bit, places included.
use mathlib.Core.Path.{◌≡◌, refl, ◌∙◌, ap, ap₂}
use mathlib.Core.Bool.{Bool, true, false, cond}
use mathlib.Core.Option.{Option, none, some}
use mathlib.Core.List.{List, [], ◌∷◌, ◌++◌, map, map-map}
use Prim.Native.Nat.{ℕ, suc}
use lib.Dec.{eqb}
use Rattle.geometry.specs.declared.segment.Point.{Point}
use Rattle.geometry.specs.declared.gap.Direction.{Direction}
use Rattle.geometry.specs.Gap.{closest_ends, decision_of, flipped, gap_of, row_bits, swapped}
use Rattle.geometry.proofs.PlaceOrder.{places_shown}
use Rattle.geometry.proofs.Promises.{gap_turned, places_turned}
use Rattle.model.specs.Gaps.{closest_between, ends_of, gap_between, gap_row, gaps_from, link_gaps, points_of}
use Rattle.model.specs.Gaps.{row_of_identity}
use Rattle.model.specs.Lists.{list_o, map_o, pick}
use Rattle.model.specs.Records.{EdgedLane, Map, Road, Span}
use Rattle.model.specs.Repair.{repair}
use Rattle.model.specs.Reversal.{reverse_direction, reverse_edged, reverse_lane, reverse_map}
use Rattle.model.specs.Succession.{predecessor_lists, predecessors, successor_lists, successors}
use Rattle.laws.proofs.Basics.{gather_ext, map_ext}
use Rattle.laws.proofs.ForEach.{each}
use Rattle.laws.proofs.SameLists.{predecessors_reversed, successors_reversed}
use Rattle.laws.proofs.Valid.{Alike, Reversible, Steady, Valid}

module _ (same : Span → Span → Bool) (mk : Span → Bool) (R : List Road) where
  abbrev turn : EdgedLane → EdgedLane
  turn = reverse_edged same mk R

  -- what a lane's ends turned round leave as it is, the lane reversed does, marked or not
  ends_reversed : {X : Type 0} (of : List (List Point) → Direction → X) (a : EdgedLane)
      → of (swapped (ends_of a)) (flipped a.lane.direction) ≡ of (ends_of a) a.lane.direction
      → of (ends_of (turn a)) (turn a).lane.direction ≡ of (ends_of a) a.lane.direction
  unfolding reverse_edged reverse_lane
  ends_reversed of a turned = go (mk a.lane.road)
    where
      go : (m : Bool)
          → of (points_of (pick m a.at_start a.at_end) ∷ points_of (pick m a.at_end a.at_start) ∷ [])
          (reverse_direction m a.lane.direction)
          ≡ of (ends_of a) a.lane.direction
      go false = refl
      go true = turned

  -- the gap of two lanes
  gap_reversed : (a b : EdgedLane) → gap_between (turn a) (turn b) ≡ gap_between a b
  unfolding gap_between
  gap_reversed a b =
      ends_reversed (λ ends d. gap_of ends d (ends_of (turn b)) (turn b).lane.direction) a (gap_turned _ _ _ _).0
      ∙ ends_reversed (λ ends d. gap_of (ends_of a) a.lane.direction ends d) b (gap_turned _ _ _ _).1

  -- the places that their row shows
  places_reversed : (a b : EdgedLane)
      → places_shown (closest_between (turn a) (turn b)) ≡ places_shown (closest_between a b)
  unfolding closest_between
  places_reversed a b =
      ends_reversed (λ ends d. places_shown (closest_ends ends d (ends_of (turn b)) (turn b).lane.direction)) a
      (places_turned _ _ _ _).0
      ∙ ends_reversed (λ ends d. places_shown (closest_ends (ends_of a) a.lane.direction ends d)) b
      (places_turned _ _ _ _).1

  -- the row and the lane of an identity
  abbrev turn_found : ℕ × EdgedLane → ℕ × EdgedLane
  turn_found x = (x.0, turn x.1)

  row_of_reversed : (k i : ℕ) (ls : List EdgedLane)
      → row_of_identity k i (map turn ls) ≡ map_o turn_found (row_of_identity k i ls)
  unfolding reverse_edged reverse_lane
  row_of_reversed k i [] = refl
  row_of_reversed k i (x ∷ xs) = go (eqb x.lane.identity k) (row_of_reversed k (suc i) xs)
    where
      go : (b : Bool) → row_of_identity k (suc i) (map turn xs) ≡ map_o turn_found (row_of_identity k (suc i) xs) →
          cond b (some (i, turn x)) (row_of_identity k (suc i) (map turn xs))
          ≡ map_o turn_found (cond b (some (i, x)) (row_of_identity k (suc i) xs))
      go true ih = refl
      go false ih = ih

  row_reversed : (i : ℕ) (a : EdgedLane) (b : ℕ × EdgedLane) → gap_row i (turn a) (turn_found b) ≡ gap_row i a b
  unfolding gap_row
  row_reversed i a b =
      ap₂ (λ gap (at : ℕ × ℕ).
      map (λ g. record { lane_row = i; next_row = b.0; gap = g; u = at.0; v = at.1 }) (row_bits (decision_of gap)))
      (gap_reversed a b.1) (places_reversed a b.1)

  rows_reversed : (ls : List EdgedLane) (i : ℕ) (zs : List EdgedLane) (ns : List (List ℕ))
      → gaps_from (map turn ls) i (map turn zs) ns ≡ gaps_from ls i zs ns
  rows_reversed ls i [] ns = refl
  rows_reversed ls i (a ∷ more) [] = refl
  rows_reversed ls i (a ∷ more) (n ∷ ns) =
      ap₂ (λ x y. x ++ y) (gather_ext _ _ n (each one n)) (rows_reversed ls (suc i) more ns)
    where
      link_found : (o : Option (ℕ × EdgedLane))
          → list_o (map_o turn_found o) (gap_row i (turn a)) ≡ list_o o (gap_row i a)
      link_found none = refl
      link_found (some b) = row_reversed i a b

      one : (k : ℕ)
          → list_o (row_of_identity k 0 (map turn ls)) (gap_row i (turn a))
          ≡ list_o (row_of_identity k 0 ls) (gap_row i a)
      one k = ap (λ o. list_o o (gap_row i (turn a))) (row_of_reversed k 0 ls) ∙ link_found (row_of_identity k 0 ls)

  -- reversed lanes have the gap rows of the lanes, from any lists of successors
  pub link_gaps_reversed : (ls : List EdgedLane) (ns : List (List ℕ)) → link_gaps (map turn ls) ns ≡ link_gaps ls ns
  unfolding link_gaps
  link_gaps_reversed ls ns = rows_reversed ls 0 ls ns

module _ (same : Span → Span → Bool) (A : Alike same) (mk : Span → Bool) (S : Steady same mk) (m : Map)
    (v : Valid same m) (h : Reversible same mk m) where
  -- the lists of all lanes
  pub successor_lists_reversed : successor_lists same (repair same (reverse_map same mk m))
      ≡ successor_lists same (repair same m)
  unfolding successor_lists repair reverse_map
  successor_lists_reversed =
      map-map (successors same (repair same (reverse_map same mk m))) (reverse_lane same mk m.roads) m.lanes
      ∙ map_ext _ _ m.lanes (successors_reversed same A mk S m v h)

  pub predecessor_lists_reversed : predecessor_lists same (repair same (reverse_map same mk m))
      ≡ predecessor_lists same (repair same m)
  unfolding predecessor_lists repair reverse_map
  predecessor_lists_reversed =
      map-map (predecessors same (repair same (reverse_map same mk m))) (reverse_lane same mk m.roads)
      m.lanes
      ∙ map_ext _ _ m.lanes (each (predecessors_reversed same A mk S m v h) m.lanes)
