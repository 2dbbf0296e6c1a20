-- What ASAM OpenDRIVE 1.8.0 says of the two sides of a joint: each has a link of its own, and they belong together. The
-- Rust reads the side that is left alone. Definitions only; ends and names as in Meaning.
use Rattle.std.specs.Prelude.{◌≡◌, Bool, true}
use Rattle.std.proofs.Math.Option.{some}
use Rattle.model.specs.Records.{Span, Target, JunctionKind, Junction, Map, Lane, Road, common, direct, virtual}
use Rattle.meaning.specs.Meaning.{◌∈◌, LeadsTo, LinkedTo, OntoRoad, Stated, ThroughJunction, WithinRoad}
use Rattle.meaning.specs.Meaning.LeadsTo.{onto, through, within}

module _ (same : Span → Span → Bool) (m : Map) where
  -- Road linkage and lane linkage, seen from lane b: its road is linked, at end c, to the road of lane a, states that
  -- it meets end e of it, and b's own link names a
  pub record LinkedBack (b : Lane) (c : Bool) (a : Lane) (e : Bool) : Type 0 where
    pub back : OntoRoad same m b c a e
    pub stated : Stated same m (onto back)

  -- Junctions, connecting roads: road r belongs to the junction, by its @junction
  pub record Belongs (j : Junction) (r : Road) : Type 0 where
    pub of : Span
    pub attribute : r.junction ≡ some of
    pub named : same j.name of ≡ true

  -- Junctions, direct junctions: b's road too is linked to the junction, at end c where it is met
  pub record MeetsToo (j : Junction) (b : Lane) (c : Bool) : Type 0 where
    pub target : Target
    pub linked : LinkedTo same m b c target
    pub to_junction : target.is_junction ≡ true
    pub named : same target.name j.name ≡ true

  -- what confirms a connection, by the kind of its junction
  abbrev pub ConfirmedIn : JunctionKind → {a : Lane} {e : Bool} {b : Lane} {c : Bool} →
      ThroughJunction same m a e b c → Type 0
  ConfirmedIn common {a} {e} {b} {c} h = Belongs h.junction h.leads.lane.road × LinkedBack b c a e
  ConfirmedIn virtual {a} {e} {b} {c} h = Belongs h.junction h.leads.lane.road × LinkedBack b c a e
  ConfirmedIn direct {a} {e} {b} {c} h = MeetsToo h.junction b c

  -- THE JOINT by which a leads to b IS CONFIRMED by b's side
  abbrev pub Confirmed : {a : Lane} {e : Bool} {b : Lane} {c : Bool} → LeadsTo same m a e b c → Type 0
  Confirmed {a} {e} {b} {c} (within h) = WithinRoad same m b c a e
  Confirmed {a} {e} {b} {c} (onto h) = LinkedBack b c a e
  Confirmed (through h) = ConfirmedIn h.junction.kind h

  -- so is every joint of the map's lanes
  abbrev pub AllConfirmed : Type 0
  AllConfirmed = (a : Lane) (e : Bool) (b : Lane) (c : Bool) → a ∈ m.lanes → (l : LeadsTo same m a e b c) → Confirmed l

  -- no junction of the map is direct
  abbrev pub NoneDirect : Type 0
  NoneDirect = (j : Junction) → j ∈ m.junctions → j.kind ≡ direct → ⊥
