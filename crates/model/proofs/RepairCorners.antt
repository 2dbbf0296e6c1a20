-- Corner cases of repair, each worked out by antt.
use mathlib.Core.Path.{◌≡◌, refl}
use mathlib.Core.Bool.{Bool, true, false}
use mathlib.Core.Option.{Option, none, some}
use mathlib.Core.List.{List, [], ◌∷◌}
use Prim.Native.Nat.{ℕ}
use Rattle.model.specs.Records.{Connection, Junction, JunctionKind, Map, Road, Span, Target, common}
use Rattle.model.specs.Records.{direct, virtual}
use Rattle.model.specs.Repair.{Warning}
use Rattle.model.proofs.CardMaps.{a, b, c, connection, j, j_at, junction, k, pair, road, to_junction, to_road}
use Rattle.model.proofs.Computed.{repaired, warned}

-- a road with one section and no lanes
abbrev plain : Span → Option Target → Option Target → Road
plain n before after = road n before after (0 ∷ [])

abbrev map_with : List Road → List Junction → Map
map_with rs js = record { roads = rs; junctions = js; lanes = [] }

abbrev warning : ℕ → Span → Bool → Warning
warning row n e = record { junction_row = row; road = n; at_end = e }

-- what repair makes of the roads, and its warnings
abbrev Gives : Map → List Road → List Warning → Type 0
Gives m rs ws = ((repaired m).roads ≡ rs) × (warned m ≡ ws)

-- repair leaves the roads, and warns of nothing
abbrev Leaves : Map → Type 0
Leaves m = Gives m m.roads []

-- ---- common junctions
-- road a with two targets, and road b, whose start is linked back to something: junction j leads from a into
-- b's start
abbrev into_b : JunctionKind → Option Target → Option Target → Option Target → Map
into_b kind before after back =
    map_with (plain a before after ∷ plain b back none ∷ []) (junction kind (connection a b false [] ∷ []) ∷ [])

-- "a known incoming road that names the junction at neither end gets it at the end named by the connecting
-- road's link at the connection's contact": b's start names a's end, a's start; and b's end where the contact
-- is end
pub link_added : Gives (into_b common none none (to_road a true))
    (plain a none (j_at true) ∷ plain b (to_road a true) none ∷ []) (warning 0 a true ∷ [])
    × Gives (into_b common none none (to_road a false))
    (plain a (j_at false) none ∷ plain b (to_road a false) none ∷ []) (warning 0 a false ∷ [])
    × Gives (map_with (plain a none none ∷ plain b (to_road c false) (to_road a true) ∷ [])
    (junction common (connection a b true [] ∷ []) ∷ []))
    (plain a none (j_at true) ∷ plain b (to_road c false) (to_road a true) ∷ []) (warning 0 a true ∷ [])
unfolding repaired warned
link_added = ((refl, refl), (refl, refl), (refl, refl))

-- it is the incoming road that gets it, wherever its row stands
pub link_added_to_it : Gives (map_with
    (plain c none none ∷ plain b (to_road a true) none ∷ plain a none none ∷ [])
    (junction common (connection a b false [] ∷ []) ∷ []))
    (plain c none none ∷ plain b (to_road a true) none ∷ plain a none (j_at true) ∷ []) (warning 0 a true ∷ [])
unfolding repaired warned
link_added_to_it = (refl, refl)

-- an occupied end is left, whatever it links to, and the vacant end too: no warning
pub occupied_end_left : Leaves (into_b common none (to_road c false) (to_road a true))
    × Leaves (into_b common none (to_junction k) (to_road a true))
    × Leaves (into_b common (to_road c false) none (to_road a false))
unfolding repaired warned
occupied_end_left = ((refl, refl), (refl, refl), (refl, refl))

-- a target that gives no contact, and one at a place along the road
abbrev ungiven : Span → Option Target
ungiven n = some (record { is_junction = false; name = n; contact = true; given = false; along = false })

abbrev along : Span → Option Target
along n = some (record { is_junction = false; name = n; contact = true; given = true; along = true })

-- a link back that gives no contact, is of kind junction, names another road or is not there adds nothing
pub no_link_back : Leaves (into_b common none none (ungiven a)) × Leaves (into_b common none none (to_junction a))
    × Leaves (into_b common none none (to_road c true)) × Leaves (into_b common none none none)
unfolding repaired warned
no_link_back = ((refl, refl), (refl, refl), (refl, refl), (refl, refl))

-- a link back with the along flag counts by its contact
pub along_counts : Gives (into_b common none none (along a))
    (plain a none (j_at true) ∷ plain b (along a) none ∷ []) (warning 0 a true ∷ [])
unfolding repaired warned
along_counts = (refl, refl)

-- a road that names the junction at its other end gets nothing; one that names another junction there does, and
-- so does one that names a road of the junction's name
pub named_already : Leaves (into_b common (to_junction j) none (to_road a true))
    × Gives (into_b common (to_junction k) none (to_road a true))
    (plain a (to_junction k) (j_at true) ∷ plain b (to_road a true) none ∷ []) (warning 0 a true ∷ [])
    × Gives (into_b common (to_road j true) none (to_road a true))
    (plain a (to_road j true) (j_at true) ∷ plain b (to_road a true) none ∷ []) (warning 0 a true ∷ [])
unfolding repaired warned
named_already = ((refl, refl), (refl, refl), (refl, refl))

-- an unknown incoming road, and an unknown connecting road, add nothing
pub unknown_roads : Leaves
    (map_with (plain b (to_road a true) none ∷ []) (junction common (connection a b false [] ∷ []) ∷ []))
    × Leaves (map_with (plain a none none ∷ []) (junction common (connection a b false [] ∷ []) ∷ []))
unfolding repaired warned
unknown_roads = ((refl, refl), (refl, refl))

-- roads are read as repaired so far: of two connections of road a the first gives it the junction, and the
-- second finds it named
pub second_adds_nothing : Gives
    (map_with (plain a none none ∷ plain b (to_road a true) none ∷ plain c (to_road a false) none ∷ [])
    (junction common (connection a b false [] ∷ connection a c false [] ∷ []) ∷ []))
    (plain a none (j_at true) ∷ plain b (to_road a true) none ∷ plain c (to_road a false) none ∷ [])
    (warning 0 a true ∷ [])
unfolding repaired warned
second_adds_nothing = (refl, refl)

-- a connection can fill the end that a later one looks at: j takes a's end, so k finds it occupied
pub rows_in_order : Gives
    (map_with (plain a none none ∷ plain b (to_road a true) none ∷ [])
    (junction common (connection a b false [] ∷ [])
    ∷ record { name = k; kind = common; connections = connection a b false [] ∷ [] } ∷ []))
    (plain a none (j_at true) ∷ plain b (to_road a true) none ∷ [])
    (warning 0 a true ∷ [])
unfolding repaired warned
rows_in_order = (refl, refl)

-- the warning has the row of its junction and not of another
pub warning_row_lem : warned (map_with (plain a none none ∷ plain b (to_road a true) none ∷ [])
    (junction common [] ∷ junction common (connection a b false [] ∷ []) ∷ []))
    ≡ warning 1 a true ∷ []
unfolding repaired warned
warning_row_lem = refl

-- ---- virtual junctions
-- "Virtual: nothing"; and a direct junction adds no links either
pub common_alone : Leaves (into_b virtual none none (to_road a true))
    × Leaves (into_b direct none none (to_road a true))
unfolding repaired warned
common_alone = ((refl, refl), (refl, refl))

-- a road of a junction
abbrev road_in : Option Span → Option Target → Option Target → Road
road_in n before after = record { name = a; junction = n; predecessor = before; successor = after; sections = 0 ∷ [] }

-- "in each road whose junction name is that of a virtual junction, an end with the along flag is made absent":
-- both ends, or one of them; not in a road of no junction, of a common one, or of a junction that is unknown
pub along_dropped : ((repaired (map_with (road_in (some j) (along b) (along b) ∷ []) (junction virtual [] ∷ []))
    ).roads ≡ road_in (some j) none none ∷ [])
    × ((repaired (map_with (road_in (some j) (to_road b true) (along b) ∷ []) (junction virtual [] ∷ []))).roads
    ≡ road_in (some j) (to_road b true) none ∷ [])
    × Leaves (map_with (road_in none (along b) (along b) ∷ []) (junction virtual [] ∷ []))
    × Leaves (map_with (road_in (some j) (along b) (along b) ∷ []) (junction common [] ∷ []))
    × Leaves (map_with (road_in (some k) (along b) (along b) ∷ []) (junction virtual [] ∷ []))
unfolding repaired warned
along_dropped = (refl, refl, (refl, refl), (refl, refl), (refl, refl))

-- they are dropped first: road a of virtual junction k, a later row, loses its place along b, and j takes the end
pub dropped_first : Gives
    (map_with (road_in (some k) none (along b) ∷ plain b (to_road a true) none ∷ [])
    (junction common (connection a b false [] ∷ []) ∷ record { name = k; kind = virtual; connections = [] } ∷ []))
    (road_in (some k) none (j_at true) ∷ plain b (to_road a true) none ∷ [])
    (warning 0 a true ∷ [])
unfolding repaired warned
dropped_first = (refl, refl)

-- ---- direct junctions
-- from a into b's start, by two pairs; and the other way, with a contact
abbrev there : Connection
there = connection a b false (pair 1 2 ∷ pair 3 4 ∷ [])

abbrev back : Bool → Connection
back contact = connection b a contact (pair 2 1 ∷ pair 4 3 ∷ [])

-- the connections of a junction of that kind with these, where road a has two targets
abbrev Connects : JunctionKind → Option Target → Option Target → List Connection → List Connection → Type 0
Connects kind before after own all =
    (repaired (map_with (plain a before after ∷ plain b none none ∷ []) (junction kind own ∷ []))).junctions
    ≡ junction kind all ∷ []

-- "swapped connections, their pairs swapped too, are appended after the junction's own"; "their contact is the
-- end at which the original's incoming road names it"; "where a road names the junction at both ends, the
-- successor end counts"
pub appended : Connects direct none (to_junction j) (there ∷ []) (there ∷ back true ∷ [])
    × Connects direct (to_junction j) none (there ∷ []) (there ∷ back false ∷ [])
    × Connects direct (to_junction j) (to_junction j) (there ∷ []) (there ∷ back true ∷ [])
unfolding repaired
appended = (refl, refl, refl)

-- each connection gives one, also where two are alike
pub appended_in_order : Connects direct none (to_junction j) (there ∷ connection a c true [] ∷ there ∷ [])
    (there ∷ connection a c true [] ∷ there ∷ back true ∷ connection c a true [] ∷ back true ∷ [])
unfolding repaired
appended_in_order = refl

-- a connection that goes on from road b, or comes from elsewhere into a, does not run the other way
pub appended_beside_others : Connects direct none (to_junction j)
    (there ∷ connection b c true [] ∷ connection c a true [] ∷ [])
    (there ∷ connection b c true [] ∷ connection c a true [] ∷ back true ∷ [])
unfolding repaired
appended_beside_others = refl

-- none "unless some connection already runs the other way", whatever its pairs; a connection of a road to
-- itself is such
pub runs_back_already : Connects direct none (to_junction j) (there ∷ connection b a true [] ∷ [])
    (there ∷ connection b a true [] ∷ [])
    × Connects direct none (to_junction j) (connection a a true (pair 1 2 ∷ []) ∷ [])
    (connection a a true (pair 1 2 ∷ []) ∷ [])
unfolding repaired
runs_back_already = (refl, refl)

-- none where "the incoming road is unknown or names the junction nowhere", be it another junction or a road of
-- its name
pub no_way_back : Connects direct none (to_junction j) (connection c b false [] ∷ []) (connection c b false [] ∷ [])
    × Connects direct none none (there ∷ []) (there ∷ [])
    × Connects direct (to_junction k) (to_road j false) (there ∷ []) (there ∷ [])
unfolding repaired
no_way_back = (refl, refl, refl)

-- common and virtual junctions keep their connections
pub direct_alone : Connects common none (to_junction j) (there ∷ []) (there ∷ [])
    × Connects virtual none (to_junction j) (there ∷ []) (there ∷ [])
unfolding repaired
direct_alone = (refl, refl)

-- rows with the name j: the junctions after repair, where road b's start links back to a's end and a names nothing
abbrev rows_of_j : List Junction → List Junction
rows_of_j js = (repaired (map_with (plain a none none ∷ plain b (to_road a true) none ∷ []) js)).junctions

-- a common row gives road a the name that a later direct row looks for; an earlier direct row does not find it
pub later_row_finds_it : (rows_of_j (junction common (there ∷ []) ∷ junction direct (there ∷ []) ∷ [])
    ≡ junction common (there ∷ []) ∷ junction direct (there ∷ back true ∷ []) ∷ [])
    × (rows_of_j (junction direct (there ∷ []) ∷ junction common (there ∷ []) ∷ [])
    ≡ junction direct (there ∷ []) ∷ junction common (there ∷ []) ∷ [])
unfolding repaired
later_row_finds_it = (refl, refl)
