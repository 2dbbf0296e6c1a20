-- "Repair": the links to a junction that its incoming roads leave out, and the connections of a direct junction the
-- other way. Definitions only.
use Rattle.std.specs.Prelude.{Bool, true, false, not, ◌&&◌, ◌||◌, cond, List, [], ◌∷◌, ◌++◌, map, ℕ, suc}
use Rattle.std.proofs.Math.Option.{Option, none, some}
use Rattle.model.specs.Lists.{pick, is_some, keep, first, some?, amend, bind_o, gather, list_o}
use Rattle.model.specs.Records.{Span, Target, Road, JunctionKind, common, direct, virtual, Pair, Connection}
use Rattle.model.specs.Records.{Junction, Map, target_at}

-- is a junction virtual?
abbrev pub is_virtual : JunctionKind → Bool
is_virtual common = false
is_virtual direct = false
is_virtual virtual = true

-- "an end with the along flag is made absent"
abbrev pub drop_along : Option Target → Option Target
drop_along none = none
drop_along (some t) = cond t.along none (some t)

-- "The new target has kind junction, that end as contact, given 1, along 0."
unfoldable pub linked : Span → Bool → Target
linked j e = record { is_junction = true; name = j; contact = e; given = true; along = false }

-- a road with another target at an end
unfoldable pub put_target : Bool → Target → Road → Road
put_target e t r = record {
  name = r.name;
  junction = r.junction;
  predecessor = pick e (some t) r.predecessor;
  successor = pick e r.successor (some t);
  sections = r.sections;
}

-- e, if that end of the road is vacant
unfoldable pub vacant_end : Road → Bool → Option Bool
vacant_end r e = cond (is_some (target_at e r)) none (some e)

-- a pair the other way
unfoldable pub swapped : Pair → Pair
swapped p = record { from = p.to; to = p.from }

-- "swapped connections, their pairs swapped too": connection c the other way, with contact e
unfoldable pub back_at : Connection → Bool → Connection
back_at c e = record { incoming = c.connecting; connecting = c.incoming; contact = e; pairs = map swapped c.pairs }

-- Warning 3: a junction row, the road that was given the junction, and the end at which.
pub record Warning : Type 0 where
  pub junction_row : ℕ
  pub road : Span
  pub at_end : Bool

-- same: are two names equal?
module _ (same : Span → Span → Bool) where
  -- the road of that name
  unfoldable pub road_of : List Road → Span → Option Road
  road_of rs n = first (λ r. same r.name n) rs

  -- does a target name junction j? (the Rust's names_junction)
  abbrev pub names_junction : Span → Option Target → Bool
  names_junction j none = false
  names_junction j (some t) = t.is_junction && same t.name j

  -- does a road name it at either end?
  unfoldable pub meets : Span → Road → Bool
  meets j r = names_junction j r.predecessor || names_junction j r.successor

  -- is a road's junction name that of a virtual junction?
  unfoldable pub in_virtual : List Junction → Road → Bool
  in_virtual js r = is_some (bind_o r.junction (λ n. first (λ j. is_virtual j.kind && same j.name n) js))

  -- "First, in each road whose junction name is that of a virtual junction, an end with the along flag is made absent."
  unfoldable pub without_along : List Junction → Road → Road
  without_along js r = cond (in_virtual js r)
      (record {
        name = r.name;
        junction = r.junction;
        predecessor = drop_along r.predecessor;
        successor = drop_along r.successor;
        sections = r.sections;
      })
      r

  -- ---- "Common: `missing_links`, connections in order"
  -- the end of road n that a target names, "only if that link is of kind road, names the incoming road, gives its
  -- contact"
  unfoldable pub back_end : Span → Target → Option Bool
  back_end n t = cond (not t.is_junction && same t.name n && t.given) (some t.contact) none

  -- the end at which "a known incoming road that names the junction at neither end gets it": "the end named by the
  -- connecting road's link at the connection's contact", if vacant
  unfoldable pub missing_end : List Road → Span → Connection → Option Bool
  missing_end rs j c = bind_o (road_of rs c.incoming) λ r. cond (meets j r) none
      (bind_o (bind_o (bind_o (road_of rs c.connecting) (target_at c.contact)) (back_end c.incoming)) (vacant_end r))

  -- the roads with junction j at that end of the incoming road
  abbrev pub link_at_end : List Road → Span → Connection → Option Bool → List Road
  link_at_end rs j c none = rs
  link_at_end rs j c (some e) = amend (λ r. same r.name c.incoming) (put_target e (linked j e)) rs

  -- the roads after one connection of common junction j
  unfoldable pub missing_link : Span → Connection → List Road → List Road
  missing_link j c rs = link_at_end rs j c (missing_end rs j c)

  -- and after all: each reads the roads that the one before it left
  abbrev pub missing_links : Span → List Connection → List Road → List Road
  missing_links j [] rs = rs
  missing_links j (c ∷ cs) rs = missing_links j cs (missing_link j c rs)

  -- ---- "Direct: `reversed`"
  -- "Their contact is the end at which the original's incoming road names it. Where a road names the junction at
  -- both ends, the successor end counts."
  unfoldable pub meeting_end : Span → Road → Option Bool
  meeting_end j r =
      cond (names_junction j r.successor) (some true) (cond (names_junction j r.predecessor) (some false) none)

  -- does connection o run the other way of c?
  unfoldable pub runs_back : Connection → Connection → Bool
  runs_back c o = same o.incoming c.connecting && same o.connecting c.incoming

  -- connection c the other way, unless "the incoming road is unknown or names the junction nowhere"
  unfoldable pub back_of : List Road → Span → Connection → List Connection
  back_of rs j c = list_o (bind_o (road_of rs c.incoming) (meeting_end j)) (λ e. back_at c e ∷ [])

  -- all of them, "unless some connection already runs the other way"
  unfoldable pub reversed : List Road → Span → List Connection → List Connection
  reversed rs j cs = gather (back_of rs j) (keep (λ c. not (some? (runs_back c) cs)) cs)

  -- ---- "Then junctions in row order."
  -- the roads after a junction
  abbrev pub roads_after : JunctionKind → Span → List Connection → List Road → List Road
  roads_after common j cs rs = missing_links j cs rs
  roads_after direct j cs rs = rs
  roads_after virtual j cs rs = rs

  -- its connections after repair: the swapped ones "are appended after the junction's own"
  abbrev pub connections_after : JunctionKind → Span → List Connection → List Road → List Connection
  connections_after common j cs rs = cs
  connections_after direct j cs rs = cs ++ reversed rs j cs
  connections_after virtual j cs rs = cs

  unfoldable pub repair_roads : Junction → List Road → List Road
  repair_roads j rs = roads_after j.kind j.name j.connections rs

  unfoldable pub repair_junction : List Road → Junction → Junction
  repair_junction rs j = record {
    name = j.name;
    kind = j.kind;
    connections = connections_after j.kind j.name j.connections rs;
  }

  -- each junction reads the roads that those before it left
  abbrev pub roads_over : List Junction → List Road → List Road
  roads_over [] rs = rs
  roads_over (j ∷ js) rs = roads_over js (repair_roads j rs)

  abbrev pub junctions_over : List Junction → List Road → List Junction
  junctions_over [] rs = []
  junctions_over (j ∷ js) rs = repair_junction rs j ∷ junctions_over js (repair_roads j rs)

  -- the roads before the first junction
  unfoldable pub start_roads : Map → List Road
  start_roads m = map (without_along m.junctions) m.roads

  -- THE MAP AFTER REPAIR
  unfoldable pub repair : Map → Map
  repair m = record {
    roads = roads_over m.junctions (start_roads m);
    junctions = junctions_over m.junctions (start_roads m);
    lanes = m.lanes;
  }

  -- ---- "Each gives a warning row 3, junction row, road row, end."
  unfoldable pub warn_one : ℕ → Span → Connection → List Road → List Warning
  warn_one i j c rs = list_o (missing_end rs j c) (λ e. record { junction_row = i; road = c.incoming; at_end = e } ∷ [])

  abbrev pub warn_all : ℕ → Span → List Connection → List Road → List Warning
  warn_all i j [] rs = []
  warn_all i j (c ∷ cs) rs = warn_one i j c rs ++ warn_all i j cs (missing_link j c rs)

  abbrev pub warn_after : ℕ → JunctionKind → Span → List Connection → List Road → List Warning
  warn_after i common j cs rs = warn_all i j cs rs
  warn_after i direct j cs rs = []
  warn_after i virtual j cs rs = []

  -- from junction row i on
  abbrev pub warn_over : ℕ → List Junction → List Road → List Warning
  warn_over i [] rs = []
  warn_over i (j ∷ js) rs = warn_after i j.kind j.name j.connections rs ++ warn_over (suc i) js (repair_roads j rs)

  -- REPAIR'S WARNINGS, in the order of repair
  unfoldable pub warnings : Map → List Warning
  warnings m = warn_over 0 m.junctions (start_roads m)
