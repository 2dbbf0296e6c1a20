-- Reversal and repair keep a sound map sound.
use mathlib.Core.Path.{◌≡◌, refl, sym, ◌∙◌, ap, ap₂}
use mathlib.Core.Bool.{Bool, true, false, not, ◌&&◌, and_comm}
use mathlib.Core.Option.{Option, none, some}
use mathlib.Core.List.{List, [], ◌∷◌, map, map-map}
use Prim.Native.Nat.{ℕ}
use lib.Ieee.{Float}
use lib.ListN.{length}
use Rattle.model.specs.Lists.{every, map_o, pick}
use Rattle.model.specs.Records.{Connection, EdgedLane, Junction, Map, Road, Span, Target, target_at}
use Rattle.model.specs.Repair.{back_at, drop_along, junctions_over, linked, put_target, repair, start_roads}
use Rattle.model.specs.Reversal.{reverse_connection, reverse_edged, reverse_junction, reverse_lane, reverse_map}
use Rattle.model.specs.Reversal.{reverse_road, reverse_target}
use Rattle.model.specs.Text.{placed, same_in}
use Rattle.laws.proofs.Basics.{map_ext}
use Rattle.laws.proofs.ByBytes.{alike_in}
use Rattle.laws.proofs.Decoded.{and4}
use Rattle.laws.proofs.Encoded.{Six}
use Rattle.laws.proofs.ForEach.{each, each_map}
use Rattle.laws.proofs.Held.{good_repair}
use Rattle.laws.proofs.ListTests.{and_both, and_left, and_right, and_swap, each_every, every_each}
use Rattle.laws.proofs.ListTests.{every_ext, every_map}
use Rattle.laws.proofs.RepairEach.{cleared, drop_along_kept, junctions_over_each, missing_link_each}
use Rattle.laws.proofs.RepairEach.{roads_over_kept, start_roads_each}
use Rattle.laws.proofs.RulesReversed.{good_reversed}
use Rattle.laws.proofs.SoundMaps.{Sound, Spelt, connection_spelt, junction_spelt, lane_spelt, name_spelt}
use Rattle.laws.proofs.SoundMaps.{road_spelt, target_spelt}
use Rattle.laws.proofs.Valid.{Each, Steady}

module _ (text : List ℕ) (s : Span → Bool) where
  target_reversed : (o : Option Target) → target_spelt text (map_o (reverse_target s) o) ≡ target_spelt text o
  unfolding reverse_target
  target_reversed none = refl
  target_reversed (some t) = refl

  road_reversed : (r : Road) → road_spelt text (reverse_road s r) ≡ road_spelt text r
  unfolding reverse_road
  road_reversed r =
      ap₂ (λ a b. placed text r.name && name_spelt text r.junction && a && b)
      (target_reversed (target_at (s r.name) r)) (target_reversed (target_at (not (s r.name)) r))
      ∙ go (s r.name)
    where
      go : (e : Bool)
          → placed text r.name && name_spelt text r.junction && target_spelt text (target_at e r) &&
          target_spelt text (target_at (not e) r) ≡ road_spelt text r
      go false = refl
      go true =
          and_swap (placed text r.name && name_spelt text r.junction) (target_spelt text r.successor)
          (target_spelt text r.predecessor)

  junction_reversed : (j : Junction) → junction_spelt text (reverse_junction s j) ≡ junction_spelt text j
  unfolding reverse_junction reverse_connection
  junction_reversed j =
      ap (λ b. placed text j.name && b)
      (every_map (reverse_connection s) (connection_spelt text) j.connections
      ∙ every_ext (λ c. connection_spelt text (reverse_connection s c)) (connection_spelt text) j.connections
      (each (λ c. refl) j.connections))

  pub spelt_reversed : (m : Map) → Spelt text m → Spelt text (reverse_map (same_in text) s m)
  unfolding reverse_map reverse_lane
  spelt_reversed m h = record {
    short = h.short;
    of_roads_lem = every_map (reverse_road s) (road_spelt text) m.roads
        ∙ every_ext (λ r. road_spelt text (reverse_road s r)) (road_spelt text) m.roads
        (each road_reversed m.roads)
        ∙ h.of_roads_lem;
    of_junctions_lem = every_map (reverse_junction s) (junction_spelt text) m.junctions
        ∙ every_ext (λ j. junction_spelt text (reverse_junction s j)) (junction_spelt text) m.junctions
        (each junction_reversed m.junctions)
        ∙ h.of_junctions_lem;
    of_lanes = every_map (reverse_lane (same_in text) s m.roads) (lane_spelt text) m.lanes
        ∙ every_ext (λ l. lane_spelt text (reverse_lane (same_in text) s m.roads l)) (lane_spelt text) m.lanes
        (each (λ l. refl) m.lanes)
        ∙ h.of_lanes;
  }

  edged_lane : (rs : List Road) (x : EdgedLane)
      → (reverse_edged (same_in text) s rs x).lane ≡ reverse_lane (same_in text) s rs x.lane
  unfolding reverse_edged
  edged_lane rs x = refl

  pub sound_reversed : Steady (same_in text) s → (m : Map) (xs : List EdgedLane) → Sound text m xs
      → Sound text (reverse_map (same_in text) s m) (map (reverse_edged (same_in text) s m.roads) xs)
  sound_reversed S m xs h = record {
    spelt = spelt_reversed m h.spelt;
    good = good_reversed (same_in text) (alike_in text) s S m h.good;
    match = lanes_are;
    six = six_reversed xs h.six;
  }
    where
      lanes_are : map (λ x. x.lane) (map (reverse_edged (same_in text) s m.roads) xs)
          ≡ (reverse_map (same_in text) s m).lanes
      lanes_are =
          unfold reverse_map in (map-map (λ x. x.lane) (reverse_edged (same_in text) s m.roads) xs
          ∙ map_ext (λ x. (reverse_edged (same_in text) s m.roads x).lane)
          (λ x. reverse_lane (same_in text) s m.roads x.lane) xs (each (edged_lane m.roads) xs)
          ∙ sym (map-map (reverse_lane (same_in text) s m.roads) (λ (x : EdgedLane). x.lane) xs)
          ∙ ap (map (reverse_lane (same_in text) s m.roads)) h.match)

      picked : (b : Bool) (x y : List Float) → length x ≡ 6 → length y ≡ 6 → length (pick b x y) ≡ 6
      picked true x y p q = q
      picked false x y p q = p

      six_reversed : (xs : List EdgedLane) → Each Six xs → Each Six (map (reverse_edged (same_in text) s m.roads) xs)
      six_reversed [] h = tt
      six_reversed (x ∷ xs) h = (
        (unfold reverse_edged in (
          picked (s x.lane.road) x.at_start x.at_end h.0.0 h.0.1,
          picked (s x.lane.road) x.at_end x.at_start h.0.1 h.0.0,
        )),
        six_reversed xs h.1,
      )

-- ---- repair
module _ (text : List ℕ) where
  abbrev alike : Span → Span → Bool
  alike = same_in text

  road_put : (j : Span) (e : Bool) (r : Road) → placed text j ≡ true → road_spelt text r ≡ true
      → road_spelt text (put_target e (linked j e) r) ≡ true
  unfolding put_target linked
  road_put j e r p h =
      go e (and4 (placed text r.name) (name_spelt text r.junction) (target_spelt text r.predecessor)
      (target_spelt text r.successor) h)
    where
      go : (e : Bool)
          → (placed text r.name ≡ true)
          × (name_spelt text r.junction ≡ true)
          × (target_spelt text r.predecessor ≡ true)
          × (target_spelt text r.successor ≡ true) →
          placed text r.name && name_spelt text r.junction && target_spelt text
          (pick e (some (linked j e)) r.predecessor) && target_spelt text
          (pick e r.successor (some (linked j e))) ≡ true
      go true w = ap₂ (λ x y. x && y) (ap₂ (λ x y. x && y) (ap₂ (λ x y. x && y) w.0 w.1) w.2) p
      go false w = ap₂ (λ x y. x && y) (ap₂ (λ x y. x && y) (ap₂ (λ x y. x && y) w.0 w.1) p) w.3

  cleared_spelt : (r : Road) → road_spelt text r ≡ true → road_spelt text (cleared r) ≡ true
  cleared_spelt r h =
      let w =
      and4 (placed text r.name) (name_spelt text r.junction) (target_spelt text r.predecessor)
      (target_spelt text r.successor) h in
      ap₂ (λ x y. x && y)
      (ap₂ (λ x y. x && y) (ap₂ (λ x y. x && y) w.0 w.1) (dropped r.predecessor w.2))
      (dropped r.successor w.3)
    where
      dropped : (o : Option Target) → target_spelt text o ≡ true → target_spelt text (drop_along o) ≡ true
      dropped o q = drop_along_kept (λ o. target_spelt text o ≡ true) refl o q

  back_spelt : (c : Connection) (e : Bool) → connection_spelt text c ≡ true → connection_spelt text (back_at c e) ≡ true
  unfolding back_at
  back_spelt c e h = and_comm (placed text c.connecting) (placed text c.incoming) ∙ h

  -- a junction's test as facts of its name and of its connections
  Parts : Junction → Type 0
  Parts j = (placed text j.name ≡ true) × Each (λ c. connection_spelt text c ≡ true) j.connections

  pub spelt_repair : (m : Map) → Spelt text m → Spelt text (repair alike m)
  unfolding repair Parts
  spelt_repair m h = record {
    short = h.short;
    of_roads_lem = each_every (road_spelt text) (repair alike m).roads
        (roads_over_kept alike (Each (λ r. road_spelt text r ≡ true)) m.junctions
        (each_map (λ j q c rs.
        missing_link_each alike (λ r. road_spelt text r ≡ true) j.name (λ e r. road_put j.name e r q.0) c
        rs) m.junctions parts) (start_roads alike m)
        (start_roads_each alike (λ r. road_spelt text r ≡ true) cleared_spelt m
        (every_each (road_spelt text) m.roads h.of_roads_lem)));
    of_junctions_lem = each_every (junction_spelt text) (junctions_over alike m.junctions (start_roads alike m))
        (each_map (λ j q.
        and_both (placed text j.name) (every (connection_spelt text) j.connections) q.0
        (each_every (connection_spelt text) j.connections q.1))
        (junctions_over alike m.junctions (start_roads alike m))
        (junctions_over_each alike (λ c. connection_spelt text c ≡ true) back_spelt (λ n. placed text n ≡ true)
        m.junctions (start_roads alike m) parts));
    of_lanes = h.of_lanes;
  }
    where
      parts : Each Parts m.junctions
      parts =
          each_map (λ j q. (
            and_left (placed text j.name) (every (connection_spelt text) j.connections) q,
            every_each (connection_spelt text) j.connections
                (and_right (placed text j.name) (every (connection_spelt text) j.connections) q),
          ))
          m.junctions (every_each (junction_spelt text) m.junctions h.of_junctions_lem)

  pub sound_repair : (m : Map) (xs : List EdgedLane) → Sound text m xs → Sound text (repair (same_in text) m) xs
  sound_repair m xs h = record {
    spelt = spelt_repair m h.spelt;
    good = good_repair (same_in text) m h.good;
    match = (unfold repair in h.match);
    six = h.six;
  }
