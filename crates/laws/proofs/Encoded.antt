-- The words of a map mean that map (decode after encode).
use mathlib.Core.Path.{◌≡◌, refl, sym, ◌∙◌, ap, ap₂}
use mathlib.Core.Bool.{Bool, true, false, cond}
use mathlib.Core.Option.{Option, none, some}
use mathlib.Core.List.{List, [], ◌∷◌, map, map-map}
use Prim.Native.Nat.{ℕ}
use native.Mathlib.Omega.{arith}
use lib.ListN.{length, length-append}
use lib.Seq.{take_at, drop_at}
use Rattle.geometry.specs.declared.gap.Direction.{Direction}
use Rattle.geometry.specs.declared.gap.Direction.TheVariants.{Backward, Both, Forward}
use Rattle.model.specs.Lists.{gather, is_some}
use Rattle.model.specs.Records.{Connection, EdgedLane, Junction, JunctionKind, Lane, Map, Pair, Road, Span}
use Rattle.model.specs.Records.{Target, common, direct, virtual}
use Rattle.model.specs.Rows.{part, table}
use Rattle.model.specs.Tables.{all_connections, all_pairs, bit, connection_in, connection_row, connection_words}
use Rattle.model.specs.Tables.{connections_in, direction_of, direction_word, edge_row, edge_words, edged_lanes_of}
use Rattle.model.specs.Tables.{flag, is_absent, junction_in, junction_row, junction_words, junctions_in, kind_of}
use Rattle.model.specs.Tables.{kind_word, lane_in, lane_row, lane_words, lanes_in, link_flag, link_number, link_of}
use Rattle.model.specs.Tables.{map_of, name_size, name_start, pair_in, pair_row, pair_words, pairs_in, road_in}
use Rattle.model.specs.Tables.{road_row}
use Rattle.model.specs.Tables.{road_words, roads_in, section_words, tables_of, target_of, target_word, with_edges}
use Rattle.laws.proofs.Basics.{map_id}
use Rattle.laws.proofs.ForEach.{each, each_map}
use Rattle.laws.proofs.Lay.{parts_back, table_even, table_from}
use Rattle.laws.proofs.Valid.{Each}

pub flag_bit : (b : Bool) → flag (bit b) ≡ b
flag_bit true = refl
flag_bit false = refl

-- a name that may be absent, and isn't the absent one where it is there
abbrev pub PlainName : Option Span → Type 0
PlainName none = Unit {0}
PlainName (some s) = is_absent s.start s.size ≡ false

abbrev pub Plain : Road → Type 0
Plain r = PlainName r.junction

pub name_back : (o : Option Span) → PlainName o
    → cond (is_absent (name_start o) (name_size o)) none (some (record { start = name_start o; size = name_size o }))
    ≡ o
name_back none h = refl
name_back (some s) h = ap (λ b. cond b none (some s)) h

pub target_back : (o : Option Target)
    → target_of (bit (is_some o)) (target_word (λ t. bit t.is_junction) o) (target_word (λ t. t.name.start) o)
    (target_word (λ t. t.name.size) o)
    (target_word (λ t. bit t.contact) o) (target_word (λ t. bit t.given) o)
    (target_word (λ t. bit t.along) o) ≡ o
target_back none = refl
target_back (some t) =
    λ i.
    some (record {
      is_junction = flag_bit t.is_junction i;
      name = t.name;
      contact = flag_bit t.contact i;
      given = flag_bit t.given i;
      along = flag_bit t.along i;
    })

pub kind_back : (k : JunctionKind) → kind_of (kind_word k) ≡ k
kind_back common = refl
kind_back direct = refl
kind_back virtual = refl

pub direction_back : (d : Direction) → direction_of (direction_word d) ≡ d
direction_back Forward = refl
direction_back Backward = refl
direction_back Both = refl

pub link_back_lem : (o : Option ℕ) → link_of (link_flag o) (link_number o) ≡ o
link_back_lem none = refl
link_back_lem (some n) = refl

pub road_back : (ss : List ℕ) (k : ℕ) (r : Road) → Plain r → part k (length r.sections) ss ≡ r.sections
    → road_in ss (road_row k r) ≡ r
unfolding road_in road_row
road_back ss k r p h =
    λ i.
    record {
      name = r.name;
      junction = name_back r.junction p i;
      predecessor = target_back r.predecessor i;
      successor = target_back r.successor i;
      sections = h i;
    }

pub pair_back : (p : Pair) → pair_in (pair_row p) ≡ p
unfolding pair_in pair_row
pair_back p = refl

pub connection_back : (ps : List Pair) (k : ℕ) (c : Connection) → Unit {0}
    → part k (length c.pairs) ps ≡ c.pairs → connection_in ps (connection_row k c) ≡ c
unfolding connection_in connection_row
connection_back ps k c p h =
    λ i.
    record { incoming = c.incoming; connecting = c.connecting; contact = flag_bit c.contact i; pairs = h i }

pub junction_back : (cs : List Connection) (k : ℕ) (j : Junction) → Unit {0}
    → part k (length j.connections) cs ≡ j.connections → junction_in cs (junction_row k j) ≡ j
unfolding junction_in junction_row
junction_back cs k j p h = λ i. record { name = j.name; kind = kind_back j.kind i; connections = h i }

pub lane_back : (l : Lane) → lane_in (lane_row l) ≡ l
unfolding lane_in lane_row
lane_back l =
    λ i.
    record {
      identity = l.identity;
      road = l.road;
      section = l.section;
      number = l.number;
      direction = direction_back l.direction i;
      predecessor = link_back_lem l.predecessor i;
      successor = link_back_lem l.successor i;
    }

-- every row has its width
pub road_width_lem : (k : ℕ) (r : Road) → length (road_row k r) ≡ 20
unfolding road_row
road_width_lem k r = refl

pub connection_width_lem : (k : ℕ) (c : Connection) → length (connection_row k c) ≡ 7
unfolding connection_row
connection_width_lem k c = refl

pub junction_width_lem : (k : ℕ) (j : Junction) → length (junction_row k j) ≡ 5
unfolding junction_row
junction_width_lem k j = refl

pub pair_width_lem : (p : Pair) → length (pair_row p) ≡ 2
unfolding pair_row
pair_width_lem p = refl

pub lane_width_lem : (l : Lane) → length (lane_row l) ≡ 10
unfolding lane_row
lane_width_lem l = refl

-- six floats at each end
abbrev pub Six : EdgedLane → Type 0
Six x = (length x.at_start ≡ 6) × (length x.at_end ≡ 6)

pub edge_width_lem : (x : EdgedLane) → Six x → length (edge_row x) ≡ 12
unfolding edge_row
edge_width_lem x six = omega (arith, length-append x.at_start x.at_end, six.0, six.1)

pub edged_back : (xs : List EdgedLane) → Each Six xs → with_edges (map (λ x. x.lane) xs) (map edge_row xs) ≡ xs
unfolding edge_row
edged_back [] h = refl
edged_back (x ∷ xs) h = ap₂ {C = List EdgedLane} (λ a l. a ∷ l)
    (λ i.
    record {
      lane = x.lane;
      at_start = take_at x.at_start x.at_end 6 h.0.0 i;
      at_end = drop_at x.at_start x.at_end 6 h.0.0 i;
    }) (edged_back xs h.1)

-- ---- whole tables
pub roads_back : (rs : List Road) → Each Plain rs → map (road_in (section_words rs)) (table 20 (road_words rs)) ≡ rs
unfolding section_words road_words
roads_back rs h =
    ap (map (road_in (gather (λ r. r.sections) rs)))
    (table_from 20 road_row (λ r. r.sections) road_width_lem (omega arith) 0 rs)
    ∙ parts_back road_row (λ r. r.sections) road_in Plain road_back rs h

pub pairs_back : (js : List Junction) → map pair_in (table 2 (pair_words js)) ≡ all_pairs js
unfolding pair_words
pairs_back js =
    ap (map pair_in) (table_even 2 pair_row (all_pairs js) (omega arith) (each pair_width_lem (all_pairs js)))
    ∙ map-map pair_in pair_row (all_pairs js)
    ∙ map_id (λ p. pair_in (pair_row p)) (all_pairs js) (each pair_back (all_pairs js))

pub connections_back : (js : List Junction)
    → map (connection_in (all_pairs js)) (table 7 (connection_words js)) ≡ all_connections js
unfolding connection_words all_pairs
connections_back js =
    ap (map (connection_in (gather (λ c. c.pairs) (all_connections js))))
    (table_from 7 connection_row (λ c. c.pairs) connection_width_lem (omega arith) 0 (all_connections js))
    ∙ parts_back connection_row (λ c. c.pairs) connection_in (λ c. Unit {0}) connection_back (all_connections js)
    (each (λ c. tt) (all_connections js))

pub junctions_back : (js : List Junction) → map (junction_in (all_connections js)) (table 5 (junction_words js)) ≡ js
unfolding junction_words all_connections
junctions_back js =
    ap (map (junction_in (gather (λ j. j.connections) js)))
    (table_from 5 junction_row (λ j. j.connections) junction_width_lem (omega arith) 0 js)
    ∙ parts_back junction_row (λ j. j.connections) junction_in (λ j. Unit {0}) junction_back js (each (λ j. tt) js)

pub lanes_back : (ls : List Lane) → map lane_in (table 10 (lane_words ls)) ≡ ls
unfolding lane_words
lanes_back ls =
    ap (map lane_in) (table_even 10 lane_row ls (omega arith) (each lane_width_lem ls))
    ∙ map-map lane_in lane_row ls
    ∙ map_id (λ l. lane_in (lane_row l)) ls (each lane_back ls)

module _ (text : List ℕ) (m : Map) (xs : List EdgedLane) where
  -- decode after encode
  pub map_back : Each Plain m.roads → map_of (tables_of text m xs) ≡ m
  unfolding map_of tables_of roads_in junctions_in connections_in pairs_in lanes_in
  map_back h =
      λ i.
      record { roads = roads_back m.roads h i; junctions = junctions_are i; lanes = lanes_back m.lanes i }
    where
      connections_are : map (connection_in (map pair_in (table 2 (pair_words m.junctions))))
          (table 7 (connection_words m.junctions)) ≡ all_connections m.junctions
      connections_are =
          ap (λ ps. map (connection_in ps) (table 7 (connection_words m.junctions)))
          (pairs_back m.junctions)
          ∙ connections_back m.junctions

      junctions_are : map (junction_in (map (connection_in (map pair_in (table 2 (pair_words m.junctions))))
          (table 7 (connection_words m.junctions)))) (table 5 (junction_words m.junctions)) ≡ m.junctions
      junctions_are =
          ap (λ cs. map (junction_in cs) (table 5 (junction_words m.junctions))) connections_are
          ∙ junctions_back m.junctions

  pub edged_whole : map (λ x. x.lane) xs ≡ m.lanes → Each Six xs → edged_lanes_of (tables_of text m xs) ≡ xs
  unfolding edged_lanes_of tables_of lanes_in edge_words
  edged_whole e h =
      ap₂ with_edges (lanes_back m.lanes ∙ sym e)
      (table_even 12 edge_row xs (omega arith) (each_map edge_width_lem xs h))
      ∙ edged_back xs h
