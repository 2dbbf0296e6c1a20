-- "Renamed and reordered maps": tables that are a copy of others with roads and junctions renamed and with road rows
-- and lane rows in another order, and what is then the same. Definitions only.
use Rattle.std.specs.Prelude.{◌≡◌, Bool, true, false, List, [], ◌∷◌, map, ℕ, ◌/◌, ◌<◌, get_or, length}
use Rattle.model.specs.Calls.{gap_content, gap_width, list_content, repair_content, warning_width}
use Rattle.model.specs.Claim.{identity_at, list_at, repaired_tables}
use Rattle.model.specs.Orders.{BothOrNone, InAnyOrder, InOrder, SameCollection}
use Rattle.model.specs.Records.{Connection, EdgedLane, Junction, Lane, Road, Span, Target}
use Rattle.model.specs.Rows.{table, word}
use Rattle.model.specs.Tables.{Tables, edged_lanes_of, junctions_of, lane_width, road_width, roads_of, span_in}
use Rattle.model.specs.Text.{bytes_of}

-- ---- "renamings that keep different names different"
-- A renaming, of names by their bytes. Only the names that occur need a new one.
pub record Renaming : Type 1 where
  -- the second is the new name of the first
  pub becomes : List ℕ → List ℕ → Type 0
  -- a name has one new name
  pub one_new_name : (a x y : List ℕ) → becomes a x → becomes a y → x ≡ y
  -- and two names have two
  pub kept_different : (a b x : List ℕ) → becomes a x → becomes b x → a ≡ b

-- the name at a place of the new text is the new name of the one at a place of the old text
unfoldable pub NewName : Renaming → (text text' : List ℕ) → Span → Span → Type 0
NewName f text text' n n' = f.becomes (bytes_of text n) (bytes_of text' n')

-- ---- a row and its copy: names are renamed, all else is the same
-- road_name, junction_name: is the second a road's new name, or a junction's, where the first is the old one?
module _ (road_name : Span → Span → Type 0) where
  -- a lane: its road is renamed
  pub record LaneRenamed (l l' : Lane) : Type 0 where
    pub identity : l'.identity ≡ l.identity
    pub road : road_name l.road l'.road
    pub section : l'.section ≡ l.section
    pub number : l'.number ≡ l.number
    pub direction : l'.direction ≡ l.direction
    pub predecessor : l'.predecessor ≡ l.predecessor
    pub successor : l'.successor ≡ l.successor

  -- "lane rows with their edges"
  pub record EdgedRenamed (x x' : EdgedLane) : Type 0 where
    pub lane : LaneRenamed x.lane x'.lane
    pub at_start : x'.at_start ≡ x.at_start
    pub at_end : x'.at_end ≡ x.at_end

  -- a connection: both its roads are renamed
  pub record ConnectionRenamed (c c' : Connection) : Type 0 where
    pub incoming : road_name c.incoming c'.incoming
    pub connecting : road_name c.connecting c'.connecting
    pub contact : c'.contact ≡ c.contact
    pub pairs : c'.pairs ≡ c.pairs

  module _ (junction_name : Span → Span → Type 0) where
    -- a target's name: by its kind a road's or a junction's
    abbrev pub TargetName : (is_junction : Bool) → Span → Span → Type 0
    TargetName true = junction_name
    TargetName false = road_name

    -- a target: what it names is renamed
    pub record TargetRenamed (t t' : Target) : Type 0 where
      pub is_junction : t'.is_junction ≡ t.is_junction
      pub name : TargetName t.is_junction t.name t'.name
      pub contact : t'.contact ≡ t.contact
      pub given : t'.given ≡ t.given
      pub along : t'.along ≡ t.along

    -- "road rows with their sections"
    pub record RoadRenamed (r r' : Road) : Type 0 where
      pub name : road_name r.name r'.name
      pub junction : BothOrNone junction_name r.junction r'.junction
      pub predecessor : BothOrNone TargetRenamed r.predecessor r'.predecessor
      pub successor : BothOrNone TargetRenamed r.successor r'.successor
      pub sections : r'.sections ≡ r.sections

    -- "connection rows keep their order"
    pub record JunctionRenamed (j j' : Junction) : Type 0 where
      pub name : junction_name j.name j'.name
      pub kind : j'.kind ≡ j.kind
      pub connections : InOrder ConnectionRenamed j.connections j'.connections

-- ---- tables and their copy
module _ (of_roads of_junctions : Renaming) (t t' : Tables) where
  -- a road's new name, and a junction's, as the tables have them
  abbrev pub RoadName : Span → Span → Type 0
  RoadName = NewName of_roads t.text t'.text

  abbrev pub JunctionName : Span → Span → Type 0
  JunctionName = NewName of_junctions t.text t'.text

  -- THE COPY: "all orders of road rows with their sections and of lane rows with their edges"; "junction .. rows keep
  -- their order"
  pub record Renamed : Type 0 where
    pub roads : InAnyOrder (RoadRenamed RoadName JunctionName) (roads_of t) (roads_of t')
    pub junctions : InOrder (JunctionRenamed RoadName JunctionName) (junctions_of t) (junctions_of t')
    pub lanes : InAnyOrder (EdgedRenamed RoadName) (edged_lanes_of t) (edged_lanes_of t')

-- ---- "gives every identity the same successor and predecessor lists"
-- the identities that the lane rows bear
abbrev pub identities_of : Tables → List ℕ
identities_of t = map (λ r. word r 0) (table lane_width t.lanes)

-- lane row i of the tables and row j of the copy bear one identity
pub record OneIdentity (t t' : Tables) (i j : ℕ) : Type 0 where
  pub row : i < length t.lanes / lane_width
  pub row' : j < length t'.lanes / lane_width
  pub identity : identity_at t'.lanes j ≡ identity_at t.lanes i

-- a lane row's lists in what succession writes
abbrev pub onward_at : Tables → ℕ → List ℕ
onward_at t = list_at (list_content t).successor_offsets (list_content t).successor_ids

abbrev pub before_at : Tables → ℕ → List ℕ
before_at t = list_at (list_content t).predecessor_offsets (list_content t).predecessor_ids

-- ---- "Gap rows are then the same collection by identity."
-- a gap row with the identities of its lanes in place of their rows
unfoldable pub gap_by_identity : (lanes row : List ℕ) → List ℕ
gap_by_identity lanes r =
    identity_at lanes (word r 0) ∷ identity_at lanes (word r 1) ∷ word r 2 ∷ word r 3 ∷ word r 4 ∷ []

-- the gap rows, by identity, that the gap check writes on the lists that succession writes
unfoldable pub gaps_by_identity : Tables → List (List ℕ)
gaps_by_identity t =
    map (gap_by_identity t.lanes)
    (table gap_width (gap_content t (list_content t).successor_offsets (list_content t).successor_ids))

-- succession and the gap check find the same on both
pub record SameByIdentity (t t' : Tables) : Type 0 where
  pub identities : SameCollection (identities_of t) (identities_of t')
  pub onward : (i j : ℕ) → OneIdentity t t' i j → onward_at t' j ≡ onward_at t i
  pub before : (i j : ℕ) → OneIdentity t t' i j → before_at t' j ≡ before_at t i
  pub gaps : SameCollection (gaps_by_identity t) (gaps_by_identity t')

-- ---- repair's warnings, of which the request says nothing
-- the name in a road row
abbrev pub name_at : Tables → ℕ → Span
name_at t i = span_in (get_or (table road_width t.roads) i []) 0

-- a warning row and its copy: the road is the renamed one, in whatever row, and all else is the same
pub record WarningRenamed (of_roads : Renaming) (t t' : Tables) (w w' : List ℕ) : Type 0 where
  pub warning : word w' 0 ≡ word w 0
  pub junction : word w' 1 ≡ word w 1
  pub road : NewName of_roads t.text t'.text (name_at t (word w 2)) (name_at t' (word w' 2))
  pub at_end : word w' 3 ≡ word w 3

-- THE CLAIM about tables and their copy
pub record RenamedClaim (of_roads of_junctions : Renaming) (t t' : Tables) : Type 0 where
  -- the same is found on the tables as they are
  pub found : SameByIdentity t t'
  -- what repair writes is a copy again, by the same renamings
  pub repaired : Renamed of_roads of_junctions (repaired_tables t) (repaired_tables t')
  -- the same is found after repair
  pub found_repaired : SameByIdentity (repaired_tables t) (repaired_tables t')
  -- and repair warns of the same roads and ends in the same order
  pub warned : InOrder (WarningRenamed of_roads t t') (table warning_width (repair_content t).warnings)
      (table warning_width (repair_content t').warnings)
