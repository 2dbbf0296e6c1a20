-- Repair keeps what each of its steps keeps: of the roads, of a road whose ends along another are made absent,
-- and of every connection.
use mathlib.Core.Bool.{Bool, true, false, not, cond}
use mathlib.Core.Option.{Option, none, some}
use mathlib.Core.List.{List, [], ◌∷◌}
use Rattle.model.specs.Lists.{bind_o, keep, list_o, some?}
use Rattle.model.specs.Records.{Connection, Junction, JunctionKind, Map, Road, Span, Target, common, direct, virtual}
use Rattle.model.specs.Repair.{back_at, back_of, connections_after, drop_along, in_virtual, junctions_over, link_at_end}
use Rattle.model.specs.Repair.{linked, meeting_end, missing_end, missing_link, missing_links, put_target}
use Rattle.model.specs.Repair.{repair_junction, repair_roads, reversed, road_of, roads_after, roads_over, runs_back}
use Rattle.model.specs.Repair.{start_roads, without_along}
use Rattle.laws.proofs.ForEach.{each_amend, each_append, each_gather, each_keep, each_over}
use Rattle.laws.proofs.Valid.{Each}

-- a road without the ends that are along another
abbrev pub cleared : Road → Road
cleared r =
    record {
      name = r.name;
      junction = r.junction;
      predecessor = drop_along r.predecessor;
      successor = drop_along r.successor;
      sections = r.sections;
    }

pub drop_along_kept : (P : Option Target → Type 0) → P none → (o : Option Target) → P o → P (drop_along o)
drop_along_kept P e none h = h
drop_along_kept P e (some t) h = go t.along
  where
    go : (b : Bool) → P (cond b none (some t))
    go true = e
    go false = h

module _ (same : Span → Span → Bool) where
  -- ---- the roads
  module _ (P : List Road → Type 0) where
    links_kept : (j : Span) → ((c : Connection) (rs : List Road) → P rs → P (missing_link same j c rs))
        → (cs : List Connection) (rs : List Road) → P rs → P (missing_links same j cs rs)
    links_kept j k [] rs h = h
    links_kept j k (c ∷ cs) rs h = links_kept j k cs (missing_link same j c rs) (k c rs h)

    pub repair_roads_kept : (j : Junction)
        → ((c : Connection) (rs : List Road) → P rs → P (missing_link same j.name c rs)) → (rs : List Road)
        → P rs → P (repair_roads same j rs)
    unfolding repair_roads
    repair_roads_kept j k rs h = go j.kind
      where
        go : (x : JunctionKind) → P (roads_after same x j.name j.connections rs)
        go common = links_kept j.name k j.connections rs h
        go direct = h
        go virtual = h

    pub roads_over_kept : (js : List Junction)
        → Each (λ j. (c : Connection) (rs : List Road) → P rs → P (missing_link same j.name c rs)) js
        → (rs : List Road) → P rs → P (roads_over same js rs)
    roads_over_kept [] k rs h = h
    roads_over_kept (j ∷ js) k rs h = roads_over_kept js k.1 (repair_roads same j rs) (repair_roads_kept j k.0 rs h)

  module _ (R : Road → Type 0) where
    -- every road, one of them with the junction put at an end
    pub missing_link_each : (j : Span) → ((e : Bool) (r : Road) → R r → R (put_target e (linked j e) r))
        → (c : Connection) (rs : List Road) → Each R rs → Each R (missing_link same j c rs)
    unfolding missing_link
    missing_link_each j k c rs h = go (missing_end same rs j c)
      where
        go : (o : Option Bool) → Each R (link_at_end same rs j c o)
        go none = h
        go (some e) =
            each_amend R (λ r. same r.name c.incoming) (put_target e (linked j e)) rs h (λ r w q. k e r q)

    pub without_along_kept : (js : List Junction) (r : Road) → R (cleared r) → R r → R (without_along same js r)
    unfolding without_along
    without_along_kept js r c h = go (in_virtual same js r)
      where
        go : (b : Bool) → R (cond b (cleared r) r)
        go true = c
        go false = h

    pub start_roads_each : ((r : Road) → R r → R (cleared r)) → (m : Map) → Each R m.roads
        → Each R (start_roads same m)
    unfolding start_roads
    start_roads_each k m h =
        each_over (without_along same m.junctions) R R (λ r q. without_along_kept m.junctions r (k r q) q)
        m.roads h

  -- ---- every connection
  module _ (Q : Connection → Type 0) (back : (c : Connection) (e : Bool) → Q c → Q (back_at c e)) where
    back_of_each : (rs : List Road) (j : Span) (c : Connection) → Q c → Each Q (back_of same rs j c)
    unfolding back_of
    back_of_each rs j c q = go (bind_o (road_of same rs c.incoming) (meeting_end same j))
      where
        go : (o : Option Bool) → Each Q (list_o o (λ e. back_at c e ∷ []))
        go none = tt
        go (some e) = (back c e q, tt)

    connections_each : (rs : List Road) (k : JunctionKind) (j : Span) (cs : List Connection) → Each Q cs
        → Each Q (connections_after same k j cs rs)
    unfolding reversed
    connections_each rs common j cs h = h
    connections_each rs direct j cs h = each_append Q cs (reversed same rs j cs) h
        (each_gather Q Q (back_of same rs j) (back_of_each rs j)
        (keep (λ c. not (some? (runs_back same c) cs)) cs)
        (each_keep Q (λ c. not (some? (runs_back same c) cs)) cs h))
    connections_each rs virtual j cs h = h

    -- of every junction: of its name, and of its connections
    pub junctions_over_each : (N : Span → Type 0) (js : List Junction) (rs : List Road)
        → Each (λ j. N j.name × Each Q j.connections) js
        → Each (λ j. N j.name × Each Q j.connections) (junctions_over same js rs)
    unfolding repair_junction
    junctions_over_each N [] rs h = tt
    junctions_over_each N (j ∷ js) rs h = (
      (h.0.0, connections_each rs j.kind j.name j.connections h.0.1),
      junctions_over_each N js (repair_roads same j rs) h.1,
    )
