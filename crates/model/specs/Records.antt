-- The map as records: what the words of the tables mean. Definitions only.
use Rattle.std.specs.Prelude.{Bool, List, ℕ, Float}
use Rattle.std.proofs.Math.Option.{Option}
use Rattle.geometry.specs.declared.gap.Direction.{Direction}
use Rattle.model.specs.Lists.{pick}

-- A name, by its place in the text. Names are equal when their bytes are: see Text.
pub record Span : Type 0 where
  pub start : ℕ
  pub size : ℕ

-- What a road is linked to at one of its ends, a road or a junction. In OpenDRIVE the contact point says which
-- end of the linked road is met: here false is its start, true its end.
pub record Target : Type 0 where
  pub is_junction : Bool
  pub name : Span
  pub contact : Bool
  -- the map gives the contact point
  pub given : Bool
  -- the link is to a place along the road, and not to an end
  pub along : Bool

-- A road: its sections are those listed, by number.
pub record Road : Type 0 where
  pub name : Span
  pub junction : Option Span
  pub predecessor : Option Target
  pub successor : Option Target
  pub sections : List ℕ

pub data JunctionKind : Type 0 where
  common direct virtual : JunctionKind

-- OpenDRIVE's lane link of a connection: lane number from on the incoming road leads to lane number to on the
-- connecting road.
pub record Pair : Type 0 where
  pub from : ℕ
  pub to : ℕ

-- OpenDRIVE's connection: from the incoming road into the connecting road, which is entered at its contact point.
pub record Connection : Type 0 where
  pub incoming : Span
  pub connecting : Span
  pub contact : Bool
  pub pairs : List Pair

pub record Junction : Type 0 where
  pub name : Span
  pub kind : JunctionKind
  pub connections : List Connection

-- A lane. Its links are OpenDRIVE's lane link: the number of the lane before or after it, in the next section
-- of its road or else on the road that the road's target names.
pub record Lane : Type 0 where
  pub identity : ℕ
  pub road : Span
  pub section : ℕ
  pub number : ℕ
  pub direction : Direction
  pub predecessor : Option ℕ
  pub successor : Option ℕ

pub record Map : Type 0 where
  pub roads : List Road
  pub junctions : List Junction
  pub lanes : List Lane

-- A lane with its edges: two points, six coordinates, at its start and two at its end.
pub record EdgedLane : Type 0 where
  pub lane : Lane
  pub at_start : List Float
  pub at_end : List Float

-- the target at a road's start (its predecessor) or end (its successor)
abbrev pub target_at : Bool → Road → Option Target
target_at e r = pick e r.predecessor r.successor

-- a lane's own link at its road's start or end
abbrev pub link_at : Bool → Lane → Option ℕ
link_at e l = pick e l.predecessor l.successor
