-- Repair of a map's copy, renamed and reordered, is the copy of the map repaired.
use mathlib.Core.Path.{◌≡◌, refl, sym, ◌∙◌, ap, ap₂, subst}
use mathlib.Core.Bool.{Bool, true, false, not, ◌&&◌, ◌||◌, cond}
use mathlib.Core.Option.{Option, none, some}
use mathlib.Core.List.{List, [], ◌∷◌, map}
use Rattle.model.specs.Lists.{bind_o, first, keep, list_o, pick, some?}
use Rattle.model.specs.Orders.{BothOrNone, neither, both, InAnyOrder, InOrder, ended, paired}
use Rattle.model.specs.Records.{Connection, Junction, JunctionKind, Map, Road, Span, Target, common, direct, virtual}
use Rattle.model.specs.Records.{target_at}
use Rattle.model.specs.Renamed.{ConnectionRenamed, JunctionRenamed, LaneRenamed, RoadRenamed, TargetName}
use Rattle.model.specs.Renamed.{TargetRenamed}
use Rattle.model.specs.Repair.{back_at, back_end, back_of, connections_after, drop_along, in_virtual, is_virtual}
use Rattle.model.specs.Repair.{junctions_over, link_at_end, linked, meeting_end, meets, missing_end, missing_link}
use Rattle.model.specs.Repair.{missing_links, names_junction, put_target, repair, repair_junction, repair_roads}
use Rattle.model.specs.Repair.{reversed}
use Rattle.model.specs.Repair.{road_of, roads_after, roads_over, runs_back, start_roads, swapped, vacant_end}
use Rattle.model.specs.Repair.{without_along}
use Rattle.laws.proofs.AnyOrder.{AtMostOne, any_amend, any_first, any_map, both_bind, both_both, both_some}
use Rattle.laws.proofs.AnyOrder.{distinct_one, order_append, order_first, order_gather, order_keep, order_some}
use Rattle.laws.proofs.RepairEach.{cleared}
use Rattle.laws.proofs.RepairKeeps.{NamesOnce, came_link, came_once, came_start}
use Rattle.laws.proofs.Valid.{Alike}

-- ---- a map and its copy
-- How names are compared in the two, and which is whose new name: new ones are the same just where the old ones are.
pub record Names : Type 1 where
  pub same : Span → Span → Bool
  pub same' : Span → Span → Bool
  pub alike : Alike same
  pub road_name : Span → Span → Type 0
  pub junction_name : Span → Span → Type 0
  pub road_kept : (a a' b b' : Span) → road_name a a' → road_name b b' → same' a' b' ≡ same a b
  pub junction_kept : (a a' b b' : Span) → junction_name a a' → junction_name b b' → same' a' b' ≡ same a b

module _ (N : Names) where
  abbrev pub Targets : Target → Target → Type 0
  Targets = TargetRenamed N.road_name N.junction_name

  abbrev pub Roads : Road → Road → Type 0
  Roads = RoadRenamed N.road_name N.junction_name

  abbrev pub Links : Connection → Connection → Type 0
  Links = ConnectionRenamed N.road_name

  abbrev pub Junctions : Junction → Junction → Type 0
  Junctions = JunctionRenamed N.road_name N.junction_name

  -- roads and their copies in any order, no name twice
  pub record RoadsRenamed (rs rs' : List Road) : Type 0 where
    pub any : InAnyOrder Roads rs rs'
    pub once : NamesOnce N.same rs

  pub record MapRenamed (m m' : Map) : Type 0 where
    pub roads : RoadsRenamed m.roads m'.roads
    pub junctions : InOrder Junctions m.junctions m'.junctions
    pub lanes : InAnyOrder (LaneRenamed N.road_name) m.lanes m'.lanes

  pub target_at_lem : (e : Bool) (r r' : Road) → Roads r r' → BothOrNone Targets (target_at e r) (target_at e r')
  target_at_lem false r r' h = h.predecessor
  target_at_lem true r r' h = h.successor

  -- the road of a name
  named : (n n' : Span) → N.road_name n n' → (r r' : Road) → Roads r r' → N.same' r'.name n' ≡ N.same r.name n
  named n n' k r r' h = N.road_kept r.name r'.name n n' h.name k

  road_one : (rs : List Road) (n : Span) → NamesOnce N.same rs → AtMostOne (keep (λ r. N.same r.name n) rs)
  road_one rs n once =
      distinct_one (λ r. N.same r.name n) (λ a b. N.same a.name b.name)
      (λ a b p q. N.alike.same_trans a.name n b.name p (N.alike.same_sym b.name n q)) rs once

  pub road_of_lem : {rs rs' : List Road} → RoadsRenamed rs rs' → (n n' : Span) → N.road_name n n' →
      BothOrNone Roads (road_of N.same rs n) (road_of N.same' rs' n')
  unfolding road_of
  road_of_lem {rs} h n n' k =
      any_first (λ r. N.same r.name n) (λ r. N.same' r.name n') (named n n' k) h.any
      (road_one rs n h.once)

  -- ---- before the first junction
  names_junction_lem : (j j' : Span) → N.junction_name j j' → {o o' : Option Target} → BothOrNone Targets o o' →
      names_junction N.same' j' o' ≡ names_junction N.same j o
  names_junction_lem j j' k neither = refl
  names_junction_lem j j' k (both {x = t} {y = t'} h) =
      ap (λ b. b && N.same' t'.name j') h.is_junction ∙ go t.is_junction h.name
    where
      go : (b : Bool) → TargetName N.road_name N.junction_name b t.name t'.name →
          b && N.same' t'.name j' ≡ b && N.same t.name j
      go true name = N.junction_kept _ _ _ _ name k
      go false name = refl

  in_virtual_lem : {js js' : List Junction} → InOrder Junctions js js' → (r r' : Road) → Roads r r' →
      in_virtual N.same' js' r' ≡ in_virtual N.same js r
  unfolding in_virtual
  in_virtual_lem {js} {js'} h r r' k = both_some (both_both one k.junction)
    where
      test : (Span → Span → Bool) → Span → Junction → Bool
      test same n j = is_virtual j.kind && same j.name n

      one : (n n' : Span) → N.junction_name n n' →
          BothOrNone Junctions (first (test N.same n) js) (first (test N.same' n') js')
      one n n' name =
          order_first (test N.same n) (test N.same' n')
          (λ j j' w. ap₂ (λ x b. is_virtual x && b) w.kind (N.junction_kept _ _ _ _ w.name name)) h

  drop_along_lem : {o o' : Option Target} → BothOrNone Targets o o' → BothOrNone Targets (drop_along o) (drop_along o')
  drop_along_lem neither = neither
  drop_along_lem (both {x = t} {y = t'} h) =
      subst (λ b. BothOrNone Targets (cond t.along none (some t)) (cond b none (some t'))) (sym h.along)
      (go t.along)
    where
      go : (b : Bool) → BothOrNone Targets (cond b none (some t)) (cond b none (some t'))
      go true = neither
      go false = both h

  without_along_lem : {js js' : List Junction} → InOrder Junctions js js' → (r r' : Road) → Roads r r' →
      Roads (without_along N.same js r) (without_along N.same' js' r')
  unfolding without_along
  without_along_lem {js} h r r' k = rw (in_virtual_lem h r r' k) (go (in_virtual N.same js r))
    where
      go : (b : Bool) → Roads (cond b (cleared r) r) (cond b (cleared r') r')
      go true = record {
        name = k.name;
        junction = k.junction;
        predecessor = drop_along_lem k.predecessor;
        successor = drop_along_lem k.successor;
        sections = k.sections;
      }
      go false = k

  -- ---- common junctions
  names_meet : (j j' : Span) → N.junction_name j j' → (r r' : Road) → Roads r r' →
      meets N.same' j' r' ≡ meets N.same j r
  unfolding meets
  names_meet j j' k r r' h =
      ap₂ (λ x y. x || y) (names_junction_lem j j' k h.predecessor) (names_junction_lem j j' k h.successor)

  back_end_lem : (n n' : Span) → N.road_name n n' → (t t' : Target) → Targets t t' →
      back_end N.same' n' t' ≡ back_end N.same n t
  unfolding back_end
  back_end_lem n n' k t t' h =
      (λ i. cond (not (h.is_junction i) && N.same' t'.name n' && h.given i) (some (h.contact i)) none)
      ∙ ap (λ b. cond (b && t.given) (some t.contact) none) (go t.is_junction h.name)
    where
      go : (b : Bool) → TargetName N.road_name N.junction_name b t.name t'.name →
          not b && N.same' t'.name n' ≡ not b && N.same t.name n
      go true name = refl
      go false name = N.road_kept _ _ _ _ name k

  vacant_end_lem : (r r' : Road) → Roads r r' → (e : Bool) → vacant_end r' e ≡ vacant_end r e
  unfolding vacant_end
  vacant_end_lem r r' h e = ap (λ b. cond b none (some e)) (both_some (target_at_lem e r r' h))

  module _ (j j' : Span) (k : N.junction_name j j') where
    pub missing_end_lem : {rs rs' : List Road} → RoadsRenamed rs rs' → (c c' : Connection) → Links c c' →
        missing_end N.same' rs' j' c' ≡ missing_end N.same rs j c
    unfolding missing_end
    missing_end_lem {rs} {rs'} h c c' l = both_bind one (road_of_lem h c.incoming c'.incoming l.incoming)
      where
        target : Option Target
        target = bind_o (road_of N.same rs c.connecting) (target_at c.contact)

        target' : Option Target
        target' = bind_o (road_of N.same' rs' c'.connecting) (target_at c'.contact)

        targets : BothOrNone Targets target target'
        targets =
            rw l.contact
            (both_both (target_at_lem c.contact) (road_of_lem h c.connecting c'.connecting l.connecting))

        ends : (r r' : Road) → Roads r r' → (o : Option Bool) → bind_o o (vacant_end r') ≡ bind_o o (vacant_end r)
        ends r r' w none = refl
        ends r r' w (some e) = vacant_end_lem r r' w e

        back : Option Bool
        back = bind_o target (back_end N.same c.incoming)

        back' : Option Bool
        back' = bind_o target' (back_end N.same' c'.incoming)

        one : (r r' : Road) → Roads r r' →
            cond (meets N.same' j' r') none (bind_o back' (vacant_end r'))
            ≡ cond (meets N.same j r) none (bind_o back (vacant_end r))
        one r r' w =
            let same_back = both_bind (back_end_lem c.incoming c'.incoming l.incoming) targets in
            ap₂ (λ b o. cond b none (bind_o o (vacant_end r'))) (names_meet j j' k r r' w) same_back
            ∙ ap (cond (meets N.same j r) none) (ends r r' w back)

    put_target_lem : (e : Bool) (r r' : Road) → Roads r r' →
        Roads (put_target e (linked j e) r) (put_target e (linked j' e) r')
    unfolding put_target linked
    put_target_lem e r r' h = record {
      name = h.name;
      junction = h.junction;
      predecessor = before e;
      successor = onward e;
      sections = h.sections;
    }
      where
        new : BothOrNone Targets (some (linked j e)) (some (linked j' e))
        new = both (record { is_junction = refl; name = k; contact = refl; given = refl; along = refl })

        before : (d : Bool) → BothOrNone Targets (pick d (some (linked j e)) r.predecessor)
            (pick d (some (linked j' e)) r'.predecessor)
        before false = new
        before true = h.predecessor

        onward : (d : Bool) → BothOrNone Targets (pick d r.successor (some (linked j e)))
            (pick d r'.successor (some (linked j' e)))
        onward false = h.successor
        onward true = new

    pub missing_link_lem : {rs rs' : List Road} → RoadsRenamed rs rs' → (c c' : Connection) → Links c c' →
        RoadsRenamed (missing_link N.same j c rs) (missing_link N.same' j' c' rs')
    unfolding missing_link
    missing_link_lem {rs} {rs'} h c c' l = record {
      any = rw (missing_end_lem h c c' l) (go (missing_end N.same rs j c));
      once = came_once (came_link N.same j c rs) h.once;
    }
      where
        go : (o : Option Bool) → InAnyOrder Roads (link_at_end N.same rs j c o) (link_at_end N.same' rs' j' c' o)
        go none = h.any
        go (some e) =
            any_amend (λ r. N.same r.name c.incoming) (λ r. N.same' r.name c'.incoming)
            (named c.incoming c'.incoming l.incoming) h.any (road_one rs c.incoming h.once)
            (put_target e (linked j e)) (put_target e (linked j' e)) (put_target_lem e)

    missing_links_lem : {rs rs' : List Road} → RoadsRenamed rs rs' → {cs cs' : List Connection} → InOrder Links cs cs' →
        RoadsRenamed (missing_links N.same j cs rs) (missing_links N.same' j' cs' rs')
    missing_links_lem {rs = rs} {rs' = rs'} h ended = h
    missing_links_lem {rs = rs} {rs' = rs'} h (paired {x = c} {y = c'} l rest) =
        missing_links_lem {rs = missing_link N.same j c rs} {rs' = missing_link N.same' j' c' rs'}
        (missing_link_lem h c c' l) rest

  pub repair_roads_lem : {rs rs' : List Road} → RoadsRenamed rs rs' → (j j' : Junction) → Junctions j j' →
      RoadsRenamed (repair_roads N.same j rs) (repair_roads N.same' j' rs')
  unfolding repair_roads
  repair_roads_lem {rs} {rs'} h j j' k = rw k.kind (go j.kind)
    where
      go : (kind : JunctionKind) → RoadsRenamed (roads_after N.same kind j.name j.connections rs)
          (roads_after N.same' kind j'.name j'.connections rs')
      go common = missing_links_lem j.name j'.name k.name h k.connections
      go direct = h
      go virtual = h

  -- ---- direct junctions
  meeting_end_lem : (j j' : Span) → N.junction_name j j' → (r r' : Road) → Roads r r' →
      meeting_end N.same' j' r' ≡ meeting_end N.same j r
  unfolding meeting_end
  meeting_end_lem j j' k r r' h =
      ap₂ (λ x y. cond x (some true) (cond y (some false) none)) (names_junction_lem j j' k h.successor)
      (names_junction_lem j j' k h.predecessor)

  runs_back_lem : (c c' : Connection) → Links c c' → (o o' : Connection) → Links o o' →
      runs_back N.same' c' o' ≡ runs_back N.same c o
  unfolding runs_back
  runs_back_lem c c' h o o' k =
      ap₂ (λ x y. x && y) (N.road_kept _ _ _ _ k.incoming h.connecting)
      (N.road_kept _ _ _ _ k.connecting h.incoming)

  module _ {rs rs' : List Road} (h : RoadsRenamed rs rs') (j j' : Junction) (k : Junctions j j') where
    back_of_lem : (c c' : Connection) → Links c c' →
        InOrder Links (back_of N.same rs j.name c) (back_of N.same' rs' j'.name c')
    unfolding back_of back_at
    back_of_lem c c' l =
        let incoming = road_of_lem h c.incoming c'.incoming l.incoming in
        rw (both_bind (meeting_end_lem j.name j'.name k.name) incoming)
        (go (bind_o (road_of N.same rs c.incoming) (meeting_end N.same j.name)))
      where
        go : (o : Option Bool) → InOrder Links (list_o o (λ e. back_at c e ∷ [])) (list_o o (λ e. back_at c' e ∷ []))
        go none = ended
        go (some e) = paired (record {
          incoming = l.connecting;
          connecting = l.incoming;
          contact = refl;
          pairs = ap (map swapped) l.pairs;
        }) ended

    all_back : InOrder Links (reversed N.same rs j.name j.connections)
        (reversed N.same' rs' j'.name j'.connections)
    unfolding reversed
    all_back =
        order_gather (back_of N.same rs j.name) (back_of N.same' rs' j'.name) back_of_lem
        (order_keep (λ c. not (some? (runs_back N.same c) j.connections))
        (λ c. not (some? (runs_back N.same' c) j'.connections)) none_back k.connections)
      where
        none_back : (c c' : Connection) → Links c c' →
            not (some? (runs_back N.same' c') j'.connections) ≡ not (some? (runs_back N.same c) j.connections)
        none_back c c' l =
            ap not (order_some (runs_back N.same c) (runs_back N.same' c') (runs_back_lem c c' l) k.connections)

    repair_junction_lem : Junctions (repair_junction N.same rs j) (repair_junction N.same' rs' j')
    unfolding repair_junction
    repair_junction_lem = record { name = k.name; kind = k.kind; connections = rw k.kind (go j.kind) }
      where
        go : (kind : JunctionKind) → InOrder Links (connections_after N.same kind j.name j.connections rs)
            (connections_after N.same' kind j'.name j'.connections rs')
        go common = k.connections
        go direct = order_append k.connections all_back
        go virtual = k.connections

  -- ---- all junctions
  roads_over_lem : {js js' : List Junction} → InOrder Junctions js js' → {rs rs' : List Road} → RoadsRenamed rs rs' →
      RoadsRenamed (roads_over N.same js rs) (roads_over N.same' js' rs')
  roads_over_lem ended h = h
  roads_over_lem (paired {x = j} {y = j'} k rest) h = roads_over_lem rest (repair_roads_lem h j j' k)

  junctions_over_lem : {js js' : List Junction} → InOrder Junctions js js' → {rs rs' : List Road}
      → RoadsRenamed rs rs' →
      InOrder Junctions (junctions_over N.same js rs) (junctions_over N.same' js' rs')
  junctions_over_lem ended h = ended
  junctions_over_lem (paired {x = j} {y = j'} k rest) h =
      paired (repair_junction_lem h j j' k) (junctions_over_lem rest (repair_roads_lem h j j' k))

  -- THE REPAIRED MAPS
  module _ {m m' : Map} (h : MapRenamed m m') where
    pub start_renamed : RoadsRenamed (start_roads N.same m) (start_roads N.same' m')
    unfolding start_roads
    start_renamed = record {
      any = any_map (without_along N.same m.junctions) (without_along N.same' m'.junctions)
          (without_along_lem h.junctions) h.roads.any;
      once = came_once (came_start N.same m) h.roads.once;
    }

    pub repair_renamed : MapRenamed (repair N.same m) (repair N.same' m')
    unfolding repair
    repair_renamed = record {
      roads = roads_over_lem h.junctions start_renamed;
      junctions = junctions_over_lem h.junctions start_renamed;
      lanes = h.lanes;
    }
