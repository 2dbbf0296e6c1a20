-- Reversal of a map with its edges composes; what holds of every set of roads that accepted calls have made;
-- what repair and the lists come to on the map reversed by such a set.
use mathlib.Core.Path.{◌≡◌, refl, sym, ◌∙◌, ap, subst}
use mathlib.Core.Bool.{Bool, true, false, not, ◌&&◌, cond}
use mathlib.Core.Option.{none, some}
use mathlib.Core.List.{List, [], ◌∷◌, map, map-map}
use Prim.Native.Nat.{ℕ}
use lib.Dec.{eqb}
use lib.ListN.{length, length-map}
use Rattle.model.specs.Lists.{ascends, every, first, gather, member}
use Rattle.model.specs.Records.{Connection, EdgedLane, Junction, Map, Road, Span}
use Rattle.model.specs.Repair.{repair, road_of, warnings}
use Rattle.model.specs.Reversal.{marked, reverse_edged, reverse_junction, reverse_lane, reverse_map, reverse_road}
use Rattle.model.specs.Reversal.{reverse_warning}
use Rattle.model.specs.Rules.{is_direct, lane_fine}
use Rattle.model.specs.Succession.{predecessor_lists, sections_of, successor_lists}
use Rattle.laws.proofs.Basics.{gather_map, length_gather, map_ext, map_id, no_some, pick_twice}
use Rattle.laws.proofs.Compose.{compose, compose_lane, idle, idle_lane}
use Rattle.laws.proofs.ForEach.{each, each_map, each_of}
use Rattle.laws.proofs.JunctionsReversed.{repair_junctions}
use Rattle.laws.proofs.ListTests.{each_every, either_right, every_ext, every_map}
use Rattle.laws.proofs.RepairKeeps.{came_once, came_whole}
use Rattle.laws.proofs.RepairReversed.{bare_road, repair_roads_lem}
use Rattle.laws.proofs.RulesReversed.{Good, connections_length, good_valid, pairs_length, reversible}
use Rattle.laws.proofs.SameGaps.{predecessor_lists_reversed, successor_lists_reversed}
use Rattle.laws.proofs.Valid.{Alike, Each, Model, Placed, Steady, Valid, junction_fine, nobody, none_twice}
use Rattle.laws.proofs.Valid.{reverse_model, toggled}
use Rattle.laws.proofs.WarningsReversed.{warnings_reversed}

module _ (same : Span → Span → Bool) where
  pub compose_model : (s t : Span → Bool) → Steady same s → (x : Model) → Valid same x.map
      → Each (λ y. Placed same x.map.roads y.lane) x.edged →
      reverse_model same t (reverse_model same s x) ≡ reverse_model same (toggled s t) x
  unfolding reverse_model
  compose_model s t S x v p = λ i. record {
    map = compose same s t S x.map v i;
    edged = edged_same i;
  }
    where
      one : (y : EdgedLane) → Placed same x.map.roads y.lane
          → reverse_edged same t (map (reverse_road s) x.map.roads) (reverse_edged same s x.map.roads y)
          ≡ reverse_edged same (toggled s t) x.map.roads y
      one y q = unfold reverse_edged toggled reverse_lane in λ i. record {
        lane = compose_lane same s t S x.map.roads v.ascending y.lane q i;
        at_start = pick_twice (s y.lane.road) (t y.lane.road) y.at_start y.at_end i;
        at_end = pick_twice (s y.lane.road) (t y.lane.road) y.at_end y.at_start i;
      }

      edged_same : map (reverse_edged same t (reverse_map same s x.map).roads)
          (map (reverse_edged same s x.map.roads) x.edged)
          ≡ map (reverse_edged same (toggled s t) x.map.roads) x.edged
      edged_same =
          unfold reverse_map in (map-map (reverse_edged same t (map (reverse_road s) x.map.roads))
          (reverse_edged same s x.map.roads) x.edged
          ∙ map_ext (λ y.
          reverse_edged same t (map (reverse_road s) x.map.roads) (reverse_edged same s x.map.roads y))
          (reverse_edged same (toggled s t) x.map.roads) x.edged (each_map one x.edged p))

  pub idle_model : (x : Model) → reverse_model same nobody x ≡ x
  unfolding reverse_model
  idle_model x =
      λ i.
      record {
        map = idle same x.map i;
        edged = map_id (reverse_edged same nobody x.map.roads) x.edged (each one x.edged) i;
      }
    where
      one : (y : EdgedLane) → reverse_edged same nobody x.map.roads y ≡ y
      one y =
          unfold reverse_edged nobody in λ i. record
          { lane = idle_lane same x.map.roads y.lane i; at_start = y.at_start; at_end = y.at_end }

-- a set of roads that accepted calls have made
pub record Held (same : Span → Span → Bool) (m : Map) (s : Span → Bool) : Type 0 where
  pub is_good : Good same m
  pub is_steady : Steady same s
  pub is_fine : every lane_fine m.lanes && every junction_fine m.junctions ≡ true
  pub is_once : none_twice same s m ≡ true
  pub is_known : (n : Span) → road_of same m.roads n ≡ none → s n ≡ false

pub marked_known : (same : Span → Span → Bool) (rs : List Road) (ks : List ℕ) (n : Span)
    → road_of same rs n ≡ none → marked same rs ks n ≡ false
unfolding road_of
marked_known same [] ks n h = refl
marked_known same (r ∷ rs) [] n h = refl
marked_known same (r ∷ rs) (k ∷ ks) n h = go (same r.name n) h (marked_known same rs ks n)
  where
    go : (b : Bool) → cond b (some r) (first (λ r. same r.name n) rs) ≡ none
        → (first (λ r. same r.name n) rs ≡ none → marked same rs ks n ≡ false)
        → cond b (eqb k 1) (marked same rs ks n) ≡ false
    go true h ih = absurd (no_some r (sym h))
    go false h ih = ih h

-- the lanes of a valid map are placed, with their edges too
pub edged_placed : (same : Span → Span → Bool) (x : Model) → map (λ y. y.lane) x.edged ≡ x.map.lanes
    → Valid same x.map → Each (λ y. Placed same x.map.roads y.lane) x.edged
edged_placed same x match v =
    each_of (λ y. y.lane) (Placed same x.map.roads) x.edged
    (subst (Each (Placed same x.map.roads)) (sym match) v.placed)

-- how many rows repair writes to each output
unfoldable pub repair_sizes : (Span → Span → Bool) → Map → List ℕ
repair_sizes same m =
    length (repair same m).roads ∷ length (repair same m).junctions
    ∷ length (gather (λ j. j.connections) (repair same m).junctions)
    ∷ length (gather (λ j. gather (λ c. c.pairs) j.connections) (repair same m).junctions)
    ∷ length (warnings same m) ∷ []

-- repair leaves the rules on a map alone
pub good_repair : (same : Span → Span → Bool) (m : Map) → Good same m → Good same (repair same m)
good_repair same m g = record {
  names_once_lem = came_once (came_whole same m) g.names_once_lem;
  ascending = sym (every_map (λ (r : Road). r.sections) ascends (repair same m).roads)
      ∙ ap (every ascends) (came_whole same m).listed_kept
      ∙ every_map (λ (r : Road). r.sections) ascends m.roads
      ∙ g.ascending;
  identities_once_lem = (unfold repair in g.identities_once_lem);
  placed = lanes_placed;
  keys_once_lem = (unfold repair in g.keys_once_lem);
}
  where
    lanes_placed : every (λ l. member l.section (sections_of same (repair same m).roads l.road))
        (repair same m).lanes ≡ true
    lanes_placed =
        every_ext (λ l. member l.section (sections_of same (repair same m).roads l.road))
        (λ l. member l.section (sections_of same m.roads l.road)) (repair same m).lanes
        (each (λ l. ap (member l.section) ((came_whole same m).sections_kept l.road)) (repair same m).lanes)
        ∙ (unfold repair in g.placed)

module _ (same : Span → Span → Bool) (A : Alike same) (m : Map) (s : Span → Bool) (h : Held same m s) where
  pub roads_count : length (repair same (reverse_map same s m)).roads ≡ length (repair same m).roads
  roads_count =
      sym (length-map (repair same (reverse_map same s m)).roads bare_road)
      ∙ ap length (repair_roads_lem same A s h.is_steady m)
      ∙ length-map (map bare_road (repair same m).roads) (reverse_road s)
      ∙ length-map (repair same m).roads bare_road

  pub repaired_junctions : (repair same (reverse_map same s m)).junctions
      ≡ map (reverse_junction s) (repair same m).junctions
  repaired_junctions = repair_junctions same A s h.is_steady m (reversible same s m h.is_once)

  -- how much repair writes
  pub repair_sizes_reversed : repair_sizes same (reverse_map same s m) ≡ repair_sizes same m
  unfolding repair_sizes
  repair_sizes_reversed = λ i. roads_count i
      ∷ (ap length repaired_junctions ∙ length-map (repair same m).junctions (reverse_junction s)) i
      ∷ (ap (λ js. length (gather (λ (j : Junction). j.connections) js)) repaired_junctions
      ∙ ap length
      (gather_map (reverse_junction s) (λ (j : Junction). j.connections) (repair same m).junctions)
      ∙ length_gather (λ j. (reverse_junction s j).connections) (λ j. j.connections) (repair same m).junctions
      (each (connections_length same s) (repair same m).junctions)) i
      ∷ (ap (λ js. length (gather (λ (j : Junction). gather (λ (c : Connection). c.pairs) j.connections) js))
      repaired_junctions
      ∙ ap length (gather_map (reverse_junction s)
      (λ (j : Junction). gather (λ (c : Connection). c.pairs) j.connections) (repair same m).junctions)
      ∙ length_gather (λ j. gather (λ c. c.pairs) (reverse_junction s j).connections)
      (λ j. gather (λ c. c.pairs) j.connections) (repair same m).junctions
      (each (pairs_length same s) (repair same m).junctions)) i
      ∷ (ap length (warnings_reversed same A s h.is_steady m) ∙ length-map (warnings same m) (reverse_warning s)) i
      ∷ []

  pub successors_held : successor_lists same (repair same (reverse_map same s m)) ≡ successor_lists same (repair same m)
  successors_held =
      successor_lists_reversed same A s h.is_steady m (good_valid same m h.is_good)
      (reversible same s m h.is_once)

  pub predecessors_held : predecessor_lists same (repair same (reverse_map same s m))
      ≡ predecessor_lists same (repair same m)
  predecessors_held =
      predecessor_lists_reversed same A s h.is_steady m (good_valid same m h.is_good)
      (reversible same s m h.is_once)

  pub lanes_count : length (repair same (reverse_map same s m)).lanes ≡ length (repair same m).lanes
  unfolding repair reverse_map
  lanes_count = length-map m.lanes (reverse_lane same s m.roads)

pub nobody_once : (same : Span → Span → Bool) (m : Map) → none_twice same nobody m ≡ true
unfolding none_twice nobody
nobody_once same m =
    each_every _ m.junctions
    (each
    (λ j. either_right (not (is_direct j.kind)) _ (each_every _ m.roads (each (λ r. refl) m.roads)))
    m.junctions)
