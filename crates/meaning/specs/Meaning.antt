-- What ASAM OpenDRIVE 1.8.0 says of links, over the map's records: when one lane follows another. Definitions only.
-- Its clauses are named by their titles, its attributes by their names. An end, of a road or of one of its lane
-- sections, is false for the start and true for the end, as in Records: @contactPoint's "start" and "end".
use Rattle.std.specs.Prelude.{◌≡◌, Bool, true, false, not, ◌⊎◌, ℕ, suc, ◌+◌, ◌<◌}
use Rattle.std.proofs.Math.Option.{some}
use mathlib.Core.List.{List, [], ◌∷◌, ◌++◌, Memᴰ}
use Rattle.geometry.specs.declared.gap.Direction.{Direction}
use Rattle.geometry.specs.declared.gap.Direction.TheVariants.{Forward, Backward, Both}
use Rattle.model.specs.Records.{Span, Target, Road, Pair, Connection, Junction, Map, Lane, target_at, link_at}

infix 30 ◌∈◌
-- x stands in the list
abbrev pub ◌∈◌ : {A : Type 0} → A → List A → Type 0
x ∈ xs = Memᴰ x xs

-- n of the elements of a list have P, each counted as often as it stands there
abbrev pub Tally : {A : Type 0} → (A → Type 0) → List A → ℕ → Type 0
Tally P [] n = n ≡ 0
Tally P (x ∷ xs) n = (k : ℕ) × Tally P xs k × ((P x × (n ≡ suc k)) ⊎ ((P x → ⊥) × (n ≡ k)))

-- the numbers that R gives the elements of a list add up to n
abbrev pub Total : {A : Type 0} → (A → ℕ → Type 0) → List A → ℕ → Type 0
Total R [] n = n ≡ 0
Total R (x ∷ xs) n = (k : ℕ) × (l : ℕ) × R x k × Total R xs l × (n ≡ k + l)

-- ---- Lane sections: they follow one another along the road, in ascending order from its start; so are they numbered
-- seen from section s, section t lies towards end e of the road
abbrev pub Towards : Bool → ℕ → ℕ → Type 0
Towards true s t = s < t
Towards false s t = t < s

-- no section lies further towards end e than s: s is the road's last section (end), or its first (start)
abbrev pub Outermost : List ℕ → Bool → ℕ → Type 0
Outermost sections e s = (u : ℕ) → u ∈ sections → Towards e s u → ⊥

-- t is the section at end e of a road
pub record SectionAt (sections : List ℕ) (e : Bool) (t : ℕ) : Type 0 where
  pub listed : t ∈ sections
  pub outermost : Outermost sections e t

-- t is the section adjacent to s towards end e: none lies between them
pub record Adjacent (sections : List ℕ) (e : Bool) (s t : ℕ) : Type 0 where
  pub listed : t ∈ sections
  pub beyond : Towards e s t
  pub nearest : (u : ℕ) → u ∈ sections → Towards e s u → Towards e u t → ⊥

-- ---- Lanes: by its side, the road's @rule and its own @direction a lane is driven along its road (forward), against
-- it (backward), or both ways
-- a lane is left at the end of its road in its direction of travel, a two-way lane at both
abbrev pub LeftAt : Direction → Bool → Type 0
LeftAt Forward e = e ≡ true
LeftAt Backward e = e ≡ false
LeftAt Both e = Unit {0}

-- and entered at the opposite one
abbrev pub EnteredAt : Direction → Bool → Type 0
EnteredAt d e = LeftAt d (not e)

abbrev pub TwoWay : Lane → Type 0
TwoWay l = l.direction ≡ Both

-- what holds of lane a, left at some end, and lane b, entered at some end
abbrev pub AtSomeEnds : (Lane → Bool → Lane → Bool → Type 0) → Lane → Lane → Type 0
AtSomeEnds R a b = (e : Bool) × (c : Bool) × R a e b c

-- Road linkage: a link to a road gives @contactPoint, the end of that road which is met; @elementS, a place along it,
-- stands there only for virtual junctions. Here: every link of a road to a road is to an end, and states it
abbrev pub AllStated : Map → Type 0
AllStated m = (r : Road) (e : Bool) (t : Target) → r ∈ m.roads → target_at e r ≡ some t → t.is_junction ≡ false →
    (t.given ≡ true) × (t.along ≡ false)

-- ---- Names: @id of a road or junction, and what refers to it. same tells whether two names are equal
-- r is the road named n among these
pub record RoadAmong (same : Span → Span → Bool) (roads : List Road) (n : Span) (r : Road) : Type 0 where
  pub listed : r ∈ roads
  pub named : same r.name n ≡ true

-- ---- In map m
module _ (same : Span → Span → Bool) (m : Map) where
  abbrev pub RoadNamed : Span → Road → Type 0
  RoadNamed n r = RoadAmong same m.roads n r

  -- j is the junction named n; OpenDRIVE has one junction of an @id, and of several the last row counts (01)
  pub record JunctionNamed (n : Span) (j : Junction) : Type 0 where
    pub above : List Junction
    pub below : List Junction
    pub listed : m.junctions ≡ above ++ (j ∷ below)
    pub named : same j.name n ≡ true
    pub last : (k : Junction) → k ∈ below → same k.name n ≡ false

  -- b is the lane numbered k (its @id in the section) in the section at end e of the road named n
  pub record LaneAt (n : Span) (e : Bool) (k : ℕ) (b : Lane) : Type 0 where
    pub listed : b ∈ m.lanes
    pub on : same b.road n ≡ true
    pub number : b.number ≡ k
    pub road : Road
    pub known : RoadNamed n road
    pub section : SectionAt road.sections e b.section

  -- Road linkage: a road's <predecessor> is what it is linked to at its start, its <successor> at its end.
  -- Here: lane a lies in the section at end e of its road, which is linked there to target t
  pub record LinkedTo (a : Lane) (e : Bool) (t : Target) : Type 0 where
    pub road : Road
    pub known : RoadNamed a.road road
    pub outermost : Outermost road.sections e a.section
    pub target : target_at e road ≡ some t

  -- ---- Lane a, left at end e of its road, leads into lane b, which is entered at end c of its own
  -- Lane linkage: a lane's <predecessor> and <successor> name, by @id, a lane of the adjacent section of its road.
  -- Here: a's link at end e names b in the adjacent section, which is entered at its near end
  pub record WithinRoad (a : Lane) (e : Bool) (b : Lane) (c : Bool) : Type 0 where
    pub link : link_at e a ≡ some b.number
    pub listed : b ∈ m.lanes
    pub on : same b.road a.road ≡ true
    pub road : Road
    pub known : RoadNamed a.road road
    pub section : Adjacent road.sections e a.section b.section
    pub entered : c ≡ not e

  -- or, where the road has no further section, a lane of the road that its road is linked to.
  -- Here: a's road is linked to a road, met at the end that @contactPoint says, and a's link names b there
  pub record OntoRoad (a : Lane) (e : Bool) (b : Lane) (c : Bool) : Type 0 where
    pub target : Target
    pub linked : LinkedTo a e target
    pub to_road : target.is_junction ≡ false
    pub link : link_at e a ≡ some b.number
    pub lane : LaneAt target.name target.contact b.number b
    pub entered : c ≡ target.contact

  -- Junctions: a <connection> leads from @incomingRoad into @connectingRoad (in a direct junction @linkedRoad), which
  -- is met at the end that @contactPoint says; a <laneLink> of it leads from lane @from of the one to lane @to of the
  -- other.
  -- Here: connection k is from a's road, and its pair p from a's number to b's, at the connecting road's contact point
  pub record PairLeads (a : Lane) (k : Connection) (p : Pair) (b : Lane) : Type 0 where
    pub incoming : same k.incoming a.road ≡ true
    pub from : p.from ≡ a.number
    pub lane : LaneAt k.connecting k.contact p.to b

  -- a's road is linked to a junction, and a pair of one of its connections leads from a to b
  pub record ThroughJunction (a : Lane) (e : Bool) (b : Lane) (c : Bool) : Type 0 where
    pub target : Target
    pub linked : LinkedTo a e target
    pub to_junction : target.is_junction ≡ true
    pub junction : Junction
    pub known : JunctionNamed target.name junction
    pub connection : Connection
    pub among : connection ∈ junction.connections
    pub pair : Pair
    pub paired : pair ∈ connection.pairs
    pub leads : PairLeads a connection pair b
    pub entered : c ≡ connection.contact

  -- one of the three
  pub data LeadsTo (a : Lane) (e : Bool) (b : Lane) (c : Bool) : Type 0 where
    within : WithinRoad a e b c → LeadsTo a e b c
    onto : OntoRoad a e b c → LeadsTo a e b c
    through : ThroughJunction a e b c → LeadsTo a e b c

  -- the link by which a leads to b states its contact point, as in AllStated; a connection always has one here
  abbrev pub Stated : {a : Lane} {e : Bool} {b : Lane} {c : Bool} → LeadsTo a e b c → Type 0
  Stated (within h) = Unit {0}
  Stated (onto h) = (h.target.given ≡ true) × (h.target.along ≡ false)
  Stated (through h) = Unit {0}

  -- ---- LANE b FOLLOWS LANE a, by OpenDRIVE
  -- traffic leaves a at end e and enters b at end c, both in their directions of travel
  pub record Drives (a : Lane) (e : Bool) (b : Lane) (c : Bool) : Type 0 where
    pub left : LeftAt a.direction e
    pub leads : LeadsTo a e b c
    pub into : EnteredAt b.direction c
    pub stated : Stated leads

  abbrev pub OpenDriveFollows : Lane → Lane → Type 0
  OpenDriveFollows = AtSomeEnds Drives

  -- ---- LANE b FOLLOWS LANE a, by the Rust, whose answer 01 keeps
  -- a one_way lane's links count as they are, whatever the direction of the lane entered
  pub record DrivesLaxly (a : Lane) (e : Bool) (b : Lane) (c : Bool) : Type 0 where
    pub left : LeftAt a.direction e
    pub leads : LeadsTo a e b c
    pub into : TwoWay a → EnteredAt b.direction c

  -- and what joins two two-way lanes is driven both ways, by whichever of them it is found
  abbrev pub Follows : Lane → Lane → Type 0
  Follows a b = AtSomeEnds DrivesLaxly a b ⊎ (TwoWay a × TwoWay b × AtSomeEnds DrivesLaxly b a)

  -- ---- What the second adds to the first
  -- a one_way lane leads into a lane that is entered against its direction of travel
  pub record AgainstTravel (a : Lane) (e : Bool) (b : Lane) (c : Bool) : Type 0 where
    pub left : LeftAt a.direction e
    pub leads : LeadsTo a e b c
    pub one_way : TwoWay a → ⊥
    pub against : EnteredAt b.direction c → ⊥

  -- a link to a road does not state its contact point, and counts by the contact that its row has (start, where it was
  -- read from a file), or is to a place along that road, and counts as one to an end
  pub record UnstatedContact (a : Lane) (e : Bool) (b : Lane) (c : Bool) : Type 0 where
    pub drives : DrivesLaxly a e b c
    pub unstated : Stated drives.leads → ⊥

  -- one of the two, or b, two-way like a, leads to a
  pub data Added (a b : Lane) : Type 0 where
    against_travel : AtSomeEnds AgainstTravel a b → Added a b
    unstated_contact : AtSomeEnds UnstatedContact a b → Added a b
    link_back : TwoWay a → TwoWay b → AtSomeEnds DrivesLaxly b a → Added a b

  -- ---- How often: OpenDRIVE does not say; 01 keeps the Rust's repeats
  -- n pairs of junction j lead from a to b
  abbrev pub PairsLead : Lane → Junction → Lane → ℕ → Type 0
  PairsLead a j b n = Total (λ k. Tally (λ p. PairLeads a k p b) k.pairs) j.connections n

  -- lane a, left at end e, leads to lane b n times: as often as pairs of the junction do, once by a link, or never
  pub data LeadsTimes (a : Lane) (e : Bool) (b : Lane) (n : ℕ) : Type 0 where
    by_pairs : (t : Target) (j : Junction) → LinkedTo a e t → t.is_junction ≡ true → JunctionNamed t.name j →
        PairsLead a j b n → LeadsTimes a e b n
    by_link : (c : Bool) → WithinRoad a e b c ⊎ OntoRoad a e b c → n ≡ 1 → LeadsTimes a e b n
    nowhere : ((c : Bool) → LeadsTo a e b c → ⊥) → n ≡ 0 → LeadsTimes a e b n
