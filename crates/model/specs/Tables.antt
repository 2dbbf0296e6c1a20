-- "The map tables": the lent words, the map that they mean, and the words of a map. Definitions only.
use Rattle.std.specs.Prelude.{Bool, ◌&&◌, cond, List, [], ◌∷◌, ◌++◌, map, ℕ, zero, suc, ◌+◌, eqb, Float, length, take}
use Rattle.std.specs.Prelude.{drop}
use Rattle.std.proofs.Math.Option.{Option, none, some}
use Rattle.geometry.specs.declared.gap.Direction.{Direction}
use Rattle.geometry.specs.declared.gap.Direction.TheVariants.{Forward, Backward, Both}
use Rattle.model.specs.Lists.{is_some, gather}
use Rattle.model.specs.Records.{Span, Target, Road, JunctionKind, common, direct, virtual, Pair}
use Rattle.model.specs.Records.{Connection, Junction, Lane, Map, EdgedLane}
use Rattle.model.specs.Rows.{table, part, word, rows_from}

-- the tables as lent: text in bytes, edges in f32, the others in words
pub record Tables : Type 0 where
  pub text : List ℕ
  pub roads : List ℕ
  pub sections : List ℕ
  pub junctions : List ℕ
  pub connections : List ℕ
  pub pairs : List ℕ
  pub lanes : List ℕ
  pub edges : List Float

-- the tables of a call that reads no lanes and no edges, and of one that reads no edges: what a call does not
-- read is no part of its outcome
abbrev pub map_tables : (text roads sections junctions connections pairs : List ℕ) → Tables
map_tables text roads sections junctions connections pairs = record {
  text = text;
  roads = roads;
  sections = sections;
  junctions = junctions;
  connections = connections;
  pairs = pairs;
  lanes = [];
  edges = [];
}

abbrev pub lane_tables : (text roads sections junctions connections pairs lanes : List ℕ) → Tables
lane_tables text roads sections junctions connections pairs lanes = record {
  text = text;
  roads = roads;
  sections = sections;
  junctions = junctions;
  connections = connections;
  pairs = pairs;
  lanes = lanes;
  edges = [];
}

-- all tables, as a call reads them
abbrev pub all_tables : (text roads sections junctions connections pairs lanes : List ℕ) → List Float → Tables
all_tables text roads sections junctions connections pairs lanes edges = record {
  text = text;
  roads = roads;
  sections = sections;
  junctions = junctions;
  connections = connections;
  pairs = pairs;
  lanes = lanes;
  edges = edges;
}

-- ---- how many words a row has
abbrev pub road_width : ℕ
road_width = 20

abbrev pub junction_width : ℕ
junction_width = 5

abbrev pub connection_width : ℕ
connection_width = 7

abbrev pub pair_width : ℕ
pair_width = 2

abbrev pub lane_width : ℕ
lane_width = 10

abbrev pub edge_width : ℕ
edge_width = 12

-- ---- words and what they mean
-- "Flags are 0 or 1"
abbrev pub flag : ℕ → Bool
flag k = eqb k 1

-- a flag's word
abbrev pub bit : Bool → ℕ
bit b = cond b 1 0

-- "A name is two words, start and length in the text"
abbrev pub span_in : List ℕ → ℕ → Span
span_in r k = record { start = word r k; size = word r (k + 1) }

-- "4,294,967,295 and 0 mean absent"
abbrev pub absent_start : ℕ
absent_start = 4294967295

-- where a row's number stands, "4,294,967,295" is none
abbrev pub no_row : ℕ
no_row = 4294967295

-- do two words mean absent?
abbrev pub is_absent : ℕ → ℕ → Bool
is_absent s n = eqb s absent_start && eqb n 0

-- a name that may be absent
abbrev pub name_in : List ℕ → ℕ → Option Span
name_in r k = cond (is_absent (word r k) (word r (k + 1))) none (some (span_in r k))

-- a name's two words
abbrev pub span_words : Span → List ℕ
span_words s = s.start ∷ s.size ∷ []

-- the two words of a name that may be absent
abbrev pub name_start : Option Span → ℕ
name_start none = absent_start
name_start (some s) = s.start

abbrev pub name_size : Option Span → ℕ
name_size none = 0
name_size (some s) = s.size

abbrev pub name_words : Option Span → List ℕ
name_words o = name_start o ∷ name_size o ∷ []

-- "Target, 7 words: present flag, kind (0 road, 1 junction), name, contact (0 start, 1 end), given flag, along flag"
abbrev pub target_of : ℕ → ℕ → ℕ → ℕ → ℕ → ℕ → ℕ → Option Target
target_of p k s n c g a = cond (flag p) (some (record {
  is_junction = flag k;
  name = record { start = s; size = n };
  contact = flag c;
  given = flag g;
  along = flag a;
})) none

-- the target from word k of a row on
abbrev pub target_in : List ℕ → ℕ → Option Target
target_in r k =
    target_of (word r k) (word r (k + 1)) (word r (k + 2)) (word r (k + 3)) (word r (k + 4)) (word r (k + 5))
    (word r (k + 6))

-- "Where present is 0 the other six words are 0"
abbrev pub target_word : (Target → ℕ) → Option Target → ℕ
target_word f none = 0
target_word f (some t) = f t

-- a target's seven words
abbrev pub target_words : Option Target → List ℕ
target_words o = bit (is_some o)
    ∷ target_word (λ t. bit t.is_junction) o
    ∷ target_word (λ t. t.name.start) o
    ∷ target_word (λ t. t.name.size) o
    ∷ target_word (λ t. bit t.contact) o
    ∷ target_word (λ t. bit t.given) o
    ∷ target_word (λ t. bit t.along) o
    ∷ []

-- a junction's kind: 0 common, 1 direct, 2 virtual
abbrev pub kind_of : ℕ → JunctionKind
kind_of zero = common
kind_of (suc zero) = direct
kind_of (suc (suc n)) = virtual

-- a junction kind's word
abbrev pub kind_word : JunctionKind → ℕ
kind_word common = 0
kind_word direct = 1
kind_word virtual = 2

-- a lane's direction: 0 forward, 1 backward, 2 both
abbrev pub direction_of : ℕ → Direction
direction_of zero = Forward
direction_of (suc zero) = Backward
direction_of (suc (suc n)) = Both

-- a direction's word
abbrev pub direction_word : Direction → ℕ
direction_word Forward = 0
direction_word Backward = 1
direction_word Both = 2

-- a lane's link: flag and number; "a number whose flag is 0 is 0"
abbrev pub link_of : ℕ → ℕ → Option ℕ
link_of f n = cond (flag f) (some n) none

-- the two words of a link
abbrev pub link_flag : Option ℕ → ℕ
link_flag none = 0
link_flag (some n) = 1

abbrev pub link_number : Option ℕ → ℕ
link_number none = 0
link_number (some n) = n

abbrev pub link_words : Option ℕ → List ℕ
link_words o = link_flag o ∷ link_number o ∷ []

-- ---- rows: what each means, and its words
-- "Road, 20 words: name, junction name (may be absent), predecessor target, successor target, section part"
unfoldable pub road_in : List ℕ → List ℕ → Road
road_in sections r = record {
  name = span_in r 0;
  junction = name_in r 2;
  predecessor = target_in r 4;
  successor = target_in r 11;
  sections = part (word r 18) (word r 19) sections;
}

-- a road's row; its part begins at section row first
unfoldable pub road_row : ℕ → Road → List ℕ
road_row first r =
    span_words r.name ++ name_words r.junction ++ target_words r.predecessor ++ target_words r.successor
    ++ (first ∷ length r.sections ∷ [])

-- "Pair: two lane numbers, from and to"
unfoldable pub pair_in : List ℕ → Pair
pair_in r = record { from = word r 0; to = word r 1 }

-- a pair's row
unfoldable pub pair_row : Pair → List ℕ
pair_row p = p.from ∷ p.to ∷ []

-- "Connection, 7 words: incoming road name, connecting road name, contact, pair part"
unfoldable pub connection_in : List Pair → List ℕ → Connection
connection_in pairs r = record {
  incoming = span_in r 0;
  connecting = span_in r 2;
  contact = flag (word r 4);
  pairs = part (word r 5) (word r 6) pairs;
}

-- a connection's row; its part begins at pair row first
unfoldable pub connection_row : ℕ → Connection → List ℕ
connection_row first c =
    span_words c.incoming ++ span_words c.connecting ++ (bit c.contact ∷ first ∷ length c.pairs ∷ [])

-- "Junction, 5 words: name, kind (0 common, 1 direct, 2 virtual), connection part"
unfoldable pub junction_in : List Connection → List ℕ → Junction
junction_in connections r =
    record { name = span_in r 0; kind = kind_of (word r 2); connections = part (word r 3) (word r 4) connections }

-- a junction's row; its part begins at connection row first
unfoldable pub junction_row : ℕ → Junction → List ℕ
junction_row first j = span_words j.name ++ (kind_word j.kind ∷ first ∷ length j.connections ∷ [])

-- "Lane, 10 words: identity, road name, section, number, direction, successor flag and number, predecessor flag
-- and number"
unfoldable pub lane_in : List ℕ → Lane
lane_in r = record {
  identity = word r 0;
  road = span_in r 1;
  section = word r 3;
  number = word r 4;
  direction = direction_of (word r 5);
  predecessor = link_of (word r 8) (word r 9);
  successor = link_of (word r 6) (word r 7);
}

-- a lane's row
unfoldable pub lane_row : Lane → List ℕ
lane_row l = (l.identity ∷ []) ++ span_words l.road ++ (l.section ∷ l.number ∷ direction_word l.direction ∷ [])
    ++ link_words l.successor ++ link_words l.predecessor

-- "Edges, 12 f32 for each lane: two points (three coordinates each) at its start, two at its end"
abbrev pub with_edges : List Lane → List (List Float) → List EdgedLane
with_edges [] es = []
with_edges (l ∷ ls) [] = []
with_edges (l ∷ ls) (e ∷ es) = record { lane = l; at_start = take 6 e; at_end = drop 6 e } ∷ with_edges ls es

-- its twelve edge floats
unfoldable pub edge_row : EdgedLane → List Float
edge_row x = x.at_start ++ x.at_end

-- ---- tables: the map that they mean. Each is over the words that it reads.
unfoldable pub roads_in : (sections roads : List ℕ) → List Road
roads_in sections roads = map (road_in sections) (table road_width roads)

unfoldable pub pairs_in : (pairs : List ℕ) → List Pair
pairs_in pairs = map pair_in (table pair_width pairs)

unfoldable pub connections_in : (pairs connections : List ℕ) → List Connection
connections_in pairs connections = map (connection_in (pairs_in pairs)) (table connection_width connections)

unfoldable pub junctions_in : (pairs connections junctions : List ℕ) → List Junction
junctions_in pairs connections junctions =
    map (junction_in (connections_in pairs connections)) (table junction_width junctions)

unfoldable pub lanes_in : (lanes : List ℕ) → List Lane
lanes_in lanes = map lane_in (table lane_width lanes)

-- the roads, pairs, connections, junctions and lanes of the tables
abbrev pub roads_of : Tables → List Road
roads_of t = roads_in t.sections t.roads

abbrev pub pairs_of : Tables → List Pair
pairs_of t = pairs_in t.pairs

abbrev pub connections_of : Tables → List Connection
connections_of t = connections_in t.pairs t.connections

abbrev pub junctions_of : Tables → List Junction
junctions_of t = junctions_in t.pairs t.connections t.junctions

abbrev pub lanes_of : Tables → List Lane
lanes_of t = lanes_in t.lanes

-- the map that the tables mean
unfoldable pub map_of : Tables → Map
map_of t = record { roads = roads_of t; junctions = junctions_of t; lanes = lanes_of t }

-- its lanes with their edges
unfoldable pub edged_lanes_of : Tables → List EdgedLane
edged_lanes_of t = with_edges (lanes_of t) (table edge_width t.edges)

-- ---- and the words of a map
unfoldable pub road_words : List Road → List ℕ
road_words rs = rows_from road_row (λ r. r.sections) 0 rs

-- "Section: one word, its number"
unfoldable pub section_words : List Road → List ℕ
section_words rs = gather (λ r. r.sections) rs

-- the connections of all junctions, and the pairs of all connections, in order
unfoldable pub all_connections : List Junction → List Connection
all_connections js = gather (λ j. j.connections) js

unfoldable pub all_pairs : List Junction → List Pair
all_pairs js = gather (λ c. c.pairs) (all_connections js)

unfoldable pub junction_words : List Junction → List ℕ
junction_words js = rows_from junction_row (λ j. j.connections) 0 js

unfoldable pub connection_words : List Junction → List ℕ
connection_words js = rows_from connection_row (λ c. c.pairs) 0 (all_connections js)

unfoldable pub pair_words : List Junction → List ℕ
pair_words js = gather pair_row (all_pairs js)

unfoldable pub lane_words : List Lane → List ℕ
lane_words ls = gather lane_row ls

unfoldable pub edge_words : List EdgedLane → List Float
edge_words xs = gather edge_row xs

-- all tables of a map, with its text and its lanes' edges
unfoldable pub tables_of : List ℕ → Map → List EdgedLane → Tables
tables_of text m xs = record {
  text = text;
  roads = road_words m.roads;
  sections = section_words m.roads;
  junctions = junction_words m.junctions;
  connections = connection_words m.junctions;
  pairs = pair_words m.junctions;
  lanes = lane_words m.lanes;
  edges = edge_words xs;
}
