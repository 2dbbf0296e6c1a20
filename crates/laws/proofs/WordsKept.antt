-- Reversal and repair make no number that is not a word, where what they read are words. So no contract asks
-- for what a u32 cannot hold.
use mathlib.Core.Bool.{Bool, true, false, not, cond}
use mathlib.Core.Option.{Option, none, some}
use mathlib.Core.List.{List, [], ◌∷◌}
use Prim.Native.Nat.{ℕ}
use Rattle.model.specs.Lists.{first, map_o}
use Rattle.model.specs.Records.{Connection, Junction, Lane, Map, Road, Span, Target, link_at, target_at}
use Rattle.model.specs.Repair.{back_at, linked, put_target, repair, road_of, start_roads, swapped}
use Rattle.model.specs.Reversal.{leads_to, marks, mirror, mirrored, reverse_connection, reverse_junction}
use Rattle.model.specs.Reversal.{reverse_lane, reverse_link, reverse_map, reverse_pair, reverse_road, reverse_target}
use Rattle.model.specs.Reversal.{signed}
use Rattle.model.specs.Succession.{sections_from, sections_of}
use Rattle.laws.proofs.AllWords.{ConnectionW, JunctionW, LaneW, LinkW, MapW, PairW, RoadW, SpanW, TargetW}
use Rattle.laws.proofs.ForEach.{each_both, each_map, each_over}
use Rattle.laws.proofs.Names.{sections_of_ascends}
use Rattle.laws.proofs.Numbers.{Word, mirror_word, mirrored_words, signed_word}
use Rattle.laws.proofs.RepairEach.{cleared, drop_along_kept, junctions_over_each, missing_link_each}
use Rattle.laws.proofs.RepairEach.{roads_over_kept, start_roads_each}
use Rattle.laws.proofs.Valid.{Ascends, Each, Placed, Valid}

-- ---- reversal
module _ (alike : Span → Span → Bool) (s : Span → Bool) where
  target_reversed : (o : Option Target) → TargetW o → TargetW (map_o (reverse_target s) o)
  unfolding reverse_target
  target_reversed none h = tt
  target_reversed (some t) h = h

  target_at_lem : (b : Bool) (r : Road) → RoadW r → TargetW (target_at b r)
  target_at_lem false r h = h.2
  target_at_lem true r h = h.3

  road_reversed : (r : Road) → Ascends r.sections → RoadW r → RoadW (reverse_road s r)
  unfolding reverse_road
  road_reversed r a h = (
    h.0,
    h.1,
    target_reversed (target_at (s r.name) r) (target_at_lem (s r.name) r h),
    target_reversed (target_at (not (s r.name)) r) (target_at_lem (not (s r.name)) r h),
    go (s r.name),
  )
    where
      go : (b : Bool) → Each Word (cond b (mirrored r.sections) r.sections)
      go true = mirrored_words r.sections a h.4
      go false = h.4

  connection_reversed : (c : Connection) → ConnectionW c → ConnectionW (reverse_connection s c)
  unfolding reverse_connection reverse_pair
  connection_reversed c h = (
    h.0,
    h.1,
    each_over (reverse_pair s c.incoming c.connecting) PairW PairW
        (λ p q.
        (signed_word (s c.incoming) p.from q.0, signed_word (s c.connecting) p.to q.1))
        c.pairs h.2,
  )

  junction_reversed : (j : Junction) → JunctionW j → JunctionW (reverse_junction s j)
  unfolding reverse_junction
  junction_reversed j h = (
    h.0,
    each_over (reverse_connection s) ConnectionW ConnectionW connection_reversed j.connections h.1,
  )

  sections_words : (rs : List Road) (n : Span) → Each RoadW rs → Each Word (sections_of alike rs n)
  unfolding sections_of road_of
  sections_words [] n h = tt
  sections_words (r ∷ rs) n h = go (alike r.name n) (sections_words rs n h.1)
    where
      go : (b : Bool) → Each Word (sections_from (first (λ r. alike r.name n) rs))
          → Each Word (sections_from (cond b (some r) (first (λ r. alike r.name n) rs)))
      go true k = h.0.4
      go false k = k

  link_reversed : (rs : List Road) (l : Lane) (e : Bool) → LinkW (link_at e l) → LinkW (reverse_link alike s rs l e)
  unfolding reverse_link
  link_reversed rs l e h = go (link_at e l) h
    where
      go : (o : Option ℕ) → LinkW o → LinkW (map_o (signed (marks s (leads_to alike rs l e))) o)
      go none h = tt
      go (some n) h = signed_word (marks s (leads_to alike rs l e)) n h

  link_at_lem : (b : Bool) (l : Lane) → LaneW l → LinkW (link_at b l)
  link_at_lem false l h = h.4
  link_at_lem true l h = h.5

  lane_reversed : (rs : List Road) → Each (λ r. Ascends r.sections) rs → Each RoadW rs → (l : Lane)
      → Placed alike rs l → LaneW l → LaneW (reverse_lane alike s rs l)
  unfolding reverse_lane
  lane_reversed rs a w l p h = (
    h.0,
    h.1,
    go (s l.road),
    signed_word (s l.road) l.number h.3,
    link_reversed rs l (s l.road) (link_at_lem (s l.road) l h),
    link_reversed rs l (not (s l.road)) (link_at_lem (not (s l.road)) l h),
  )
    where
      go : (b : Bool) → Word (cond b (mirror (sections_of alike rs l.road) l.section) l.section)
      go true =
          mirror_word (sections_of alike rs l.road) l.section (sections_of_ascends alike rs l.road a)
          (sections_words rs l.road w) p
      go false = h.2

  pub reverse_words : (m : Map) → Valid alike m → MapW m → MapW (reverse_map alike s m)
  unfolding reverse_map
  reverse_words m v h = record {
    roads = each_over (reverse_road s) RoadW (λ r. Ascends r.sections × RoadW r)
        (λ r q. road_reversed r q.0 q.1) m.roads
        (each_both (λ r. Ascends r.sections) RoadW m.roads v.ascending h.roads);
    junctions = each_over (reverse_junction s) JunctionW JunctionW junction_reversed m.junctions h.junctions;
    lanes = each_over (reverse_lane alike s m.roads) LaneW (λ l. Placed alike m.roads l × LaneW l)
        (λ l q. lane_reversed m.roads v.ascending h.roads l q.0 q.1) m.lanes
        (each_both (Placed alike m.roads) LaneW m.lanes v.placed h.lanes);
  }

-- ---- repair
module _ (alike : Span → Span → Bool) where
  put_words : (j : Span) (e : Bool) (r : Road) → SpanW j → RoadW r → RoadW (put_target e (linked j e) r)
  unfolding put_target linked
  put_words j false r p h = (h.0, h.1, p, h.3, h.4)
  put_words j true r p h = (h.0, h.1, h.2, p, h.4)

  cleared_words : (r : Road) → RoadW r → RoadW (cleared r)
  cleared_words r h = (
    h.0,
    h.1,
    drop_along_kept TargetW tt r.predecessor h.2,
    drop_along_kept TargetW tt r.successor h.3,
    h.4,
  )

  back_words : (c : Connection) (e : Bool) → ConnectionW c → ConnectionW (back_at c e)
  unfolding back_at swapped
  back_words c e h = (h.1, h.0, each_over swapped PairW PairW (λ p q. (q.1, q.0)) c.pairs h.2)

  pub repair_words : (m : Map) → MapW m → MapW (repair alike m)
  unfolding repair
  repair_words m h = record {
    roads =
        roads_over_kept alike (Each RoadW) m.junctions
        (each_map
        (λ j q c rs. missing_link_each alike RoadW j.name (λ e r. put_words j.name e r q.0) c rs)
        m.junctions h.junctions) (start_roads alike m)
        (start_roads_each alike RoadW cleared_words m h.roads);
    junctions = junctions_over_each alike ConnectionW back_words SpanW m.junctions (start_roads alike m)
        h.junctions;
    lanes = h.lanes;
  }
