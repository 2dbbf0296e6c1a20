-- What ASAM OpenDRIVE 1.8.0 says of the roads that meet in a junction, and so which links of roads its connections
-- imply. Definitions only; ends and names as in Meaning.
--
-- Junctions, incoming roads: an incoming road has the junction as its <predecessor> or <successor>, at the end that
-- meets it. Connecting roads: a connecting road's own link, at its end that the connection's @contactPoint says, is to
-- the incoming road, and that link's @contactPoint is the end of the incoming road that meets the junction.
use Rattle.std.specs.Prelude.{◌≡◌, Bool, true, false, not, List, [], ◌∷◌, ◌++◌, ◌↔◌}
use Rattle.std.proofs.Math.Option.{Option, none, some}
use Rattle.model.specs.Records.{Span, Target, Road, Pair, Connection, Junction, Map, common, direct, virtual, target_at}
use Rattle.meaning.specs.Meaning.{◌∈◌, RoadAmong}

-- two lists of one length, and R of each two elements that stand in the same place
abbrev pub Pairwise : {A B : Type 0} → (A → B → Type 0) → List A → List B → Type 0
Pairwise R [] [] = Unit {0}
Pairwise R [] (y ∷ ys) = ⊥
Pairwise R (x ∷ xs) [] = ⊥
Pairwise R (x ∷ xs) (y ∷ ys) = R x y × Pairwise R xs ys

-- a link to junction n, at end e of a road (01: "kind junction, that end as contact, given 1, along 0")
abbrev pub to_junction : Span → Bool → Target
to_junction n e = record { is_junction = true; name = n; contact = e; given = true; along = false }

-- r' is road r with target o at end e, and as it was otherwise
pub record WithTarget (e : Bool) (o : Option Target) (r r' : Road) : Type 0 where
  pub target : target_at e r' ≡ o
  pub other : target_at (not e) r' ≡ target_at (not e) r
  pub name : r'.name ≡ r.name
  pub junction : r'.junction ≡ r.junction
  pub sections : r'.sections ≡ r.sections

-- connection k is one of a common junction of the map, named n
pub record OfCommon (m : Map) (n : Span) (k : Connection) : Type 0 where
  pub junction : Junction
  pub listed : junction ∈ m.junctions
  pub kind : junction.kind ≡ common
  pub named : junction.name ≡ n
  pub among : k ∈ junction.connections

-- a lane link the other way
pub record Swapped (p q : Pair) : Type 0 where
  pub from : q.from ≡ p.to
  pub to : q.to ≡ p.from

module _ (same : Span → Span → Bool) where
  -- road r is linked to junction n at end e
  pub record NamesAt (n : Span) (e : Bool) (r : Road) : Type 0 where
    pub target : Target
    pub linked : target_at e r ≡ some target
    pub junction : target.is_junction ≡ true
    pub named : same target.name n ≡ true

  -- ---- Common junctions
  -- among these roads, the connecting road of connection k tells that the incoming road meets the junction at end e
  pub record Implies (roads : List Road) (k : Connection) (e : Bool) : Type 0 where
    pub connecting : Road
    pub known : RoadAmong same roads k.connecting connecting
    pub link : Target
    pub linked : target_at k.contact connecting ≡ some link
    pub to_road : link.is_junction ≡ false
    pub to_incoming : same link.name k.incoming ≡ true
    pub stated : link.given ≡ true
    pub meets : link.contact ≡ e

  -- r, the incoming road of connection k of junction n, lacks the link to it that k implies: r is linked to n at
  -- neither end, and to nothing at the end e that meets it
  pub record Lacks (roads : List Road) (n : Span) (k : Connection) (r : Road) (e : Bool) : Type 0 where
    pub incoming : RoadAmong same roads k.incoming r
    pub nowhere : (d : Bool) → NamesAt n d r → ⊥
    pub implied : Implies roads k e
    pub vacant : target_at e r ≡ none

  -- r' is road r after connection k of common junction n was read: with the link that it lacked, or as it was
  pub data Mended (roads : List Road) (n : Span) (k : Connection) (r r' : Road) : Type 0 where
    given : (e : Bool) → Lacks roads n k r e → WithTarget e (some (to_junction n e)) r r' → Mended roads n k r r'
    kept : ((e : Bool) → Lacks roads n k r e → ⊥) → r' ≡ r → Mended roads n k r r'

  -- ---- Virtual junctions: their roads may be linked, by @elementS, to a place along the main road
  -- a road of a virtual junction
  pub record InVirtual (m : Map) (r : Road) : Type 0 where
    pub of : Span
    pub belongs : r.junction ≡ some of
    pub junction : Junction
    pub listed : junction ∈ m.junctions
    pub kind : junction.kind ≡ virtual
    pub named : same junction.name of ≡ true

  -- what is left of target o of road r: nothing, if it is along another road and r in a virtual junction
  pub data Left (m : Map) (r : Road) : Option Target → Option Target → Type 0 where
    absent : Left m r none none
    dropped : (t : Target) → t.along ≡ true → InVirtual m r → Left m r (some t) none
    stays : (t : Target) → (t.along ≡ true → InVirtual m r → ⊥) → Left m r (some t) (some t)

  -- r' is road r without its links along another, if it is in a virtual junction
  pub record Cleared (m : Map) (r r' : Road) : Type 0 where
    pub left : (e : Bool) → Left m r (target_at e r) (target_at e r')
    pub name : r'.name ≡ r.name
    pub junction : r'.junction ≡ r.junction
    pub sections : r'.sections ≡ r.sections

  -- ---- All of repair, on the roads that are left so
  -- end e of road r after repair, in r': as it was, or with a link that r lacked
  pub data EndAfter (m : Map) (roads : List Road) (r r' : Road) (e : Bool) : Type 0 where
    as_was : target_at e r' ≡ target_at e r → EndAfter m roads r r' e
    implied : (n : Span) (k : Connection) → OfCommon m n k → Lacks roads n k r e →
        target_at e r' ≡ some (to_junction n e) → EndAfter m roads r r' e

  pub record After (m : Map) (roads : List Road) (r r' : Road) : Type 0 where
    pub ends : (e : Bool) → EndAfter m roads r r' e
    pub name : r'.name ≡ r.name
    pub junction : r'.junction ≡ r.junction
    pub sections : r'.sections ≡ r.sections

  -- no link that a connection of a common junction implies is lacking among these roads
  abbrev pub Complete : Map → List Road → Type 0
  Complete m roads = (n : Span) (k : Connection) → OfCommon m n k → (r : Road) (e : Bool) → Lacks roads n k r e → ⊥

  -- ---- Direct junctions: a <connection> joins @incomingRoad to @linkedRoad. That it holds the other way round too is
  -- the Rust's reading (DIFFERENCES A13)
  -- k' is connection k of junction n the other way: it enters the incoming road where that is linked to the junction,
  -- at its end where it is so at both (01)
  pub record OtherWay (roads : List Road) (n : Span) (k k' : Connection) : Type 0 where
    pub incoming : k'.incoming ≡ k.connecting
    pub connecting : k'.connecting ≡ k.incoming
    pub pairs : Pairwise Swapped k.pairs k'.pairs
    pub road : Road
    pub known : RoadAmong same roads k.incoming road
    pub contact : NamesAt n k'.contact road
    pub successor : k'.contact ≡ false → NamesAt n true road → ⊥

  -- no connection of the junction runs the other way of k
  abbrev pub OneWay : List Connection → Connection → Type 0
  OneWay ks k = (o : Connection) → o ∈ ks → same o.incoming k.connecting ≡ true →
      same o.connecting k.incoming ≡ true → ⊥

  -- connection k' is added to direct junction j: one of its own the other way, where none runs so already
  pub record Turned (roads : List Road) (j : Junction) (k' : Connection) : Type 0 where
    pub own : Connection
    pub among : own ∈ j.connections
    pub one_way : OneWay j.connections own
    pub turned : OtherWay roads j.name own k'

  -- junction j after repair, in j', where the roads were these when its row was reached
  pub record JunctionAfter (roads : List Road) (j j' : Junction) : Type 0 where
    pub name : j'.name ≡ j.name
    pub kind : j'.kind ≡ j.kind
    pub added : List Connection
    pub connections : j'.connections ≡ j.connections ++ added
    pub just : (k' : Connection) → k' ∈ added ↔ ((j.kind ≡ direct) × Turned roads j k')

  -- the same, the roads as repaired so far
  pub record RowAfter (m : Map) (roads : List Road) (j j' : Junction) : Type 0 where
    pub now : List Road
    pub so_far : Pairwise (After m roads) roads now
    pub after : JunctionAfter now j j'
