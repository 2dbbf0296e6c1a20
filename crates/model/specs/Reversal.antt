-- "Reversal" of the reference lines of the marked roads. Definitions only.
use Rattle.std.specs.Prelude.{Bool, true, false, not, cond, List, [], ◌∷◌, map, reverse, ℕ, ◌+◌, ◌-◌, ◌%◌, eqb, ltb}
use Rattle.std.proofs.Math.Option.{Option, none, some}
use Rattle.geometry.specs.declared.gap.Direction.{Direction}
use Rattle.geometry.specs.Gap.{flipped}
use Rattle.model.specs.Lists.{◌⊕◌, pick, head_or, last_or, map_o, bind_o}
use Rattle.model.specs.Records.{Span, Target, Road, Pair, Connection, Junction, Map, Lane, EdgedLane}
use Rattle.model.specs.Records.{target_at, link_at}
use Rattle.model.specs.Repair.{road_of, Warning}
use Rattle.model.specs.Succession.{sections_of, next_section}

-- a lane number with its sign changed: a 32-bit word in two's complement. What is no word stays.
unfoldable pub negated : ℕ → ℕ
negated n = cond (ltb n 4294967296) ((4294967296 - n) % 4294967296) n

-- changed, if the mark is set
abbrev pub signed : Bool → ℕ → ℕ
signed false n = n
signed true n = negated n

-- "forward and backward swap"
abbrev pub reverse_direction : Bool → Direction → Direction
reverse_direction false d = d
reverse_direction true d = flipped d

-- "section number i becomes first + last - i"
unfoldable pub mirror : List ℕ → ℕ → ℕ
mirror ss i = (head_or 0 ss + last_or 0 ss) - i

-- "listed ascending"
unfoldable pub mirrored : List ℕ → List ℕ
mirrored ss = reverse (map (mirror ss) ss)

-- mk: is the road of that name marked?
module _ (mk : Span → Bool) where
  -- "the contact of a target of kind road flips if the road it names is marked"
  unfoldable pub reverse_target : Target → Target
  reverse_target t = record {
    is_junction = t.is_junction;
    name = t.name;
    contact = cond t.is_junction t.contact (mk t.name ⊕ t.contact);
    given = t.given;
    along = t.along;
  }

  -- "For a marked road: targets swap"; its sections are mirrored
  unfoldable pub reverse_road : Road → Road
  reverse_road r = record {
    name = r.name;
    junction = r.junction;
    predecessor = map_o reverse_target (target_at (mk r.name) r);
    successor = map_o reverse_target (target_at (not (mk r.name)) r);
    sections = cond (mk r.name) (mirrored r.sections) r.sections;
  }

  -- "a pair's from changes sign if the incoming road is marked, its to if the connecting road is"
  unfoldable pub reverse_pair : Span → Span → Pair → Pair
  reverse_pair i c p = record { from = signed (mk i) p.from; to = signed (mk c) p.to }

  -- "that of a connection if its connecting road is"
  unfoldable pub reverse_connection : Connection → Connection
  reverse_connection c = record {
    incoming = c.incoming;
    connecting = c.connecting;
    contact = mk c.connecting ⊕ c.contact;
    pairs = map (reverse_pair c.incoming c.connecting) c.pairs;
  }

  unfoldable pub reverse_junction : Junction → Junction
  reverse_junction j = record { name = j.name; kind = j.kind; connections = map reverse_connection j.connections }

  -- "Repair warnings then differ only in the end of a marked road."
  unfoldable pub reverse_warning : Warning → Warning
  reverse_warning w = record { junction_row = w.junction_row; road = w.road; at_end = mk w.road ⊕ w.at_end }

  -- is there a road, and is it marked?
  abbrev pub marks : Option Span → Bool
  marks none = false
  marks (some n) = mk n

-- the road that a target names, "if of kind road"
abbrev pub road_named : Target → Option Span
road_named t = cond t.is_junction none (some t.name)

-- same: are two names equal?
module _ (same : Span → Span → Bool) where
  -- the road that the target at an end of road n names
  unfoldable pub roadward : List Road → Span → Bool → Option Span
  roadward rs n e = bind_o (bind_o (road_of same rs n) (target_at e)) road_named

  -- "the road it leads to (its own road if a further section lies that way, else the road that end's target
  -- names, if of kind road)"
  abbrev pub leads_by : List Road → Lane → Bool → Option ℕ → Option Span
  leads_by rs l e (some s) = some l.road
  leads_by rs l e none = roadward rs l.road e

  unfoldable pub leads_to : List Road → Lane → Bool → Option Span
  leads_to rs l e = leads_by rs l e (next_section (sections_of same rs l.road) l.section e)

  -- "One mark for each road": is the road of that name marked?
  abbrev pub marked : List Road → List ℕ → Span → Bool
  marked [] ks n = false
  marked (r ∷ rs) [] n = false
  marked (r ∷ rs) (k ∷ ks) n = cond (same r.name n) (eqb k 1) (marked rs ks n)

  module _ (mk : Span → Bool) where
    -- "a lane link number changes sign if the road it leads to is marked"
    unfoldable pub reverse_link : List Road → Lane → Bool → Option ℕ
    reverse_link rs l e = map_o (signed (marks mk (leads_to rs l e))) (link_at e l)

    -- "its lanes' sections follow; forward and backward swap; successor and predecessor links swap; lane
    -- numbers change sign"
    unfoldable pub reverse_lane : List Road → Lane → Lane
    reverse_lane rs l = record {
      identity = l.identity;
      road = l.road;
      section = cond (mk l.road) (mirror (sections_of same rs l.road) l.section) l.section;
      number = signed (mk l.road) l.number;
      direction = reverse_direction (mk l.road) l.direction;
      predecessor = reverse_link rs l (mk l.road);
      successor = reverse_link rs l (not (mk l.road));
    }

    -- THE MAP REVERSED
    unfoldable pub reverse_map : Map → Map
    reverse_map m = record {
      roads = map (reverse_road mk) m.roads;
      junctions = map (reverse_junction mk) m.junctions;
      lanes = map (reverse_lane m.roads) m.lanes;
    }

    -- "the six edge floats at start and end swap"
    unfoldable pub reverse_edged : List Road → EdgedLane → EdgedLane
    reverse_edged rs x = record {
      lane = reverse_lane rs x.lane;
      at_start = pick (mk x.lane.road) x.at_start x.at_end;
      at_end = pick (mk x.lane.road) x.at_end x.at_start;
    }
