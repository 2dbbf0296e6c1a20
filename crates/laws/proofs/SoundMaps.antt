-- What makes a map sound: names that lie in the text, and what the rules ask of roads and lanes. The words of a
-- sound map pass rules 2 to 8 and 10.
use mathlib.Core.Path.{◌≡◌, refl, sym, ◌∙◌, ap, ap₂}
use mathlib.Core.Bool.{Bool, true, false, ◌&&◌, ◌||◌}
use mathlib.Core.Option.{Option, none, some}
use mathlib.Core.List.{List, [], ◌∷◌, map}
use Prim.Native.Nat.{ℕ, ◌+◌, ◌*◌, ◌/◌}
use native.Mathlib.Nat.{mul-div_cancel}
use native.Mathlib.Omega.{arith}
use lib.Dec.{eqb, leb}
use lib.ListN.{length, length-map}
use borrow.Author.Tests.{leb-true, ne_eqb, eq-eqb}
use Rattle.geometry.specs.declared.gap.Direction.{Direction}
use Rattle.geometry.specs.declared.gap.Direction.TheVariants.{Backward, Both, Forward}
use Rattle.model.specs.Lists.{ascends, distinct, every, gather, is_some, member}
use Rattle.model.specs.Records.{Connection, EdgedLane, Junction, JunctionKind, Lane, Map, Road, Span, Target}
use Rattle.model.specs.Records.{common, direct, virtual}
use Rattle.model.specs.Rows.{parts_fit, rows_from, table}
use Rattle.model.specs.Rules.{connection_parts_fit, connection_worded, connections_fit, edges_even, edges_fit}
use Rattle.model.specs.Rules.{identities_once, ids_once, junction_worded, keys_once, lane_worded, lanes_listed}
use Rattle.model.specs.Rules.{lanes_worded, link_worded, listed_in, map_worded, names_once, pair_parts_fit, places_once}
use Rattle.model.specs.Rules.{road_worded, roads_once, same_key, section_parts_fit, sections_ascend, sections_fit}
use Rattle.model.specs.Rules.{target_worded}
use Rattle.model.specs.Succession.{sections_of}
use Rattle.model.specs.Tables.{Tables, all_connections, all_pairs, bit, connection_row, connection_words}
use Rattle.model.specs.Tables.{direction_word, edge_row, edge_words, edged_lanes_of, flag, is_absent, junction_row}
use Rattle.model.specs.Tables.{junction_words, junctions_of, kind_word, lane_row, lane_words, lanes_of, link_flag}
use Rattle.model.specs.Tables.{link_number, map_of, name_size, name_start, pair_row, pair_words, road_row, road_words}
use Rattle.model.specs.Tables.{roads_of, section_words, tables_of, target_word}
use Rattle.model.specs.Text.{placed, same_in}
use Rattle.laws.proofs.Decoded.{and4}
use Rattle.laws.proofs.Encoded.{Plain, PlainName, Six, connection_width_lem, edge_width_lem, edged_whole}
use Rattle.laws.proofs.Encoded.{junction_width_lem, lane_width_lem, map_back, pair_width_lem, road_width_lem}
use Rattle.laws.proofs.ForEach.{each, each_map}
use Rattle.laws.proofs.Lay.{length_even, length_rows_from, parts_fit_lem, row_list, table_even, table_from}
use Rattle.laws.proofs.ListTests.{and_both, and_left, and_right, each_every, every_each, every_gather}
use Rattle.laws.proofs.ListTests.{every_map}
use Rattle.laws.proofs.RulesReversed.{Good}
use Rattle.laws.proofs.Valid.{Each}

-- ---- a map whose names lie in the text
abbrev pub name_spelt : List ℕ → Option Span → Bool
name_spelt text none = true
name_spelt text (some s) = placed text s

abbrev pub target_spelt : List ℕ → Option Target → Bool
target_spelt text none = true
target_spelt text (some t) = placed text t.name

abbrev pub road_spelt : List ℕ → Road → Bool
road_spelt text r =
    placed text r.name && name_spelt text r.junction && target_spelt text r.predecessor && target_spelt
    text r.successor

abbrev pub connection_spelt : List ℕ → Connection → Bool
connection_spelt text c = placed text c.incoming && placed text c.connecting

abbrev pub junction_spelt : List ℕ → Junction → Bool
junction_spelt text j = placed text j.name && every (connection_spelt text) j.connections

abbrev pub lane_spelt : List ℕ → Lane → Bool
lane_spelt text l = placed text l.road

pub record Spelt (text : List ℕ) (m : Map) : Type 0 where
  pub short : leb (length text) 1048576 ≡ true
  pub of_roads_lem : every (road_spelt text) m.roads ≡ true
  pub of_junctions_lem : every (junction_spelt text) m.junctions ≡ true
  pub of_lanes : every (lane_spelt text) m.lanes ≡ true

-- the absent name lies in no text
placed_there : (text : List ℕ) (s : Span) → leb (length text) 1048576 ≡ true → placed text s ≡ true
    → is_absent s.start s.size ≡ false
unfolding placed
placed_there text s h p =
    let text-few = leb-true (length text) 1048576 h in
    let inside = leb-true (s.start + s.size) (length text) p in
    ap (λ x. x && eqb s.size 0) (ne_eqb s.start 4294967295 (λ e. omega arith))

pub plain_roads : (text : List ℕ) (m : Map) → Spelt text m → Each Plain m.roads
plain_roads text m h = each_map one m.roads (every_each (road_spelt text) m.roads h.of_roads_lem)
  where
    name : (o : Option Span) → name_spelt text o ≡ true → PlainName o
    name none q = tt
    name (some s) q = placed_there text s h.short q

    one : (r : Road) → road_spelt text r ≡ true → Plain r
    one r q =
        name r.junction (and4 (placed text r.name) (name_spelt text r.junction)
        (target_spelt text r.predecessor) (target_spelt text r.successor) q).1

-- ---- the words of such a map pass rule 2
row_list_every : {X A : Type 0} (test : List ℕ → Bool) (row : ℕ → X → List ℕ) (f : X → List A) (P : X → Type 0)
    → ((i : ℕ) (x : X) → P x → test (row i x) ≡ true) →
    (i : ℕ) (xs : List X) → Each P xs → every test (row_list row f i xs) ≡ true
row_list_every test row f P k i [] h = refl
row_list_every test row f P k i (x ∷ xs) h =
    and_both (test (row i x)) (every test (row_list row f (i + length (f x)) xs)) (k i x h.0)
    (row_list_every test row f P k (i + length (f x)) xs h.1)

bit_small : (b : Bool) → leb (bit b) 1 ≡ true
bit_small true = refl
bit_small false = refl

target_words_lem : (text : List ℕ) (o : Option Target) → target_spelt text o ≡ true
    → target_worded text (bit (is_some o)) (target_word (λ t. bit t.is_junction) o)
    (target_word (λ t. t.name.start) o) (target_word (λ t. t.name.size) o)
    (target_word (λ t. bit t.contact) o) (target_word (λ t. bit t.given) o)
    (target_word (λ t. bit t.along) o) ≡ true
unfolding target_worded
target_words_lem text none h = refl
target_words_lem text (some t) h =
    and_both
    (leb (bit t.is_junction) 1 && placed text t.name && leb (bit t.contact) 1 && leb (bit t.given) 1)
    (leb (bit t.along) 1)
    (and_both (leb (bit t.is_junction) 1 && placed text t.name && leb (bit t.contact) 1)
    (leb (bit t.given) 1) (and_both (leb (bit t.is_junction) 1 && placed text t.name)
    (leb (bit t.contact) 1)
    (and_both (leb (bit t.is_junction) 1) (placed text t.name) (bit_small t.is_junction) h)
    (bit_small t.contact)) (bit_small t.given)) (bit_small t.along)

name_words_lem : (text : List ℕ) (o : Option Span) → name_spelt text o ≡ true
    → is_absent (name_start o) (name_size o) || placed text (record { start = name_start o; size = name_size o })
    ≡ true
name_words_lem text none h = refl
name_words_lem text (some s) h = go (is_absent s.start s.size)
  where
    go : (b : Bool) → b || placed text s ≡ true
    go true = refl
    go false = h

road_words_lem : (text : List ℕ) (i : ℕ) (r : Road) → road_spelt text r ≡ true → road_worded text (road_row i r) ≡ true
unfolding road_worded road_row
road_words_lem text i r h =
    let w =
    and4 (placed text r.name) (name_spelt text r.junction) (target_spelt text r.predecessor)
    (target_spelt text r.successor) h in
    ap₂ (λ x y. x && y) (ap₂ (λ x y. x && y)
    (ap₂ (λ x y. x && y) w.0 (name_words_lem text r.junction w.1))
    (target_words_lem text r.predecessor w.2)) (target_words_lem text r.successor w.3)

connection_words_lem : (text : List ℕ) (i : ℕ) (c : Connection) → connection_spelt text c ≡ true
    → connection_worded text (connection_row i c) ≡ true
unfolding connection_worded connection_row
connection_words_lem text i c h = ap₂ (λ x y. x && y) h (bit_small c.contact)

words_of_junctions : (text : List ℕ) (i : ℕ) (j : Junction) → junction_spelt text j ≡ true
    → junction_worded text (junction_row i j) ≡ true
unfolding junction_worded junction_row
words_of_junctions text i j h =
    ap₂ (λ x y. x && y) (and_left (placed text j.name) (every (connection_spelt text) j.connections) h)
    (small j.kind)
  where
    small : (k : JunctionKind) → leb (kind_word k) 2 ≡ true
    small common = refl
    small direct = refl
    small virtual = refl

lane_words_lem : (text : List ℕ) (l : Lane) → lane_spelt text l ≡ true → lane_worded text (lane_row l) ≡ true
unfolding lane_worded lane_row link_worded
lane_words_lem text l h =
    ap₂ (λ x y. x && y)
    (ap₂ (λ x y. x && y) (ap₂ (λ x y. x && y) h (small l.direction)) (link l.successor))
    (link l.predecessor)
  where
    small : (d : Direction) → leb (direction_word d) 2 ≡ true
    small Forward = refl
    small Backward = refl
    small Both = refl

    link : (o : Option ℕ) → leb (link_flag o) 1 && (flag (link_flag o) || eqb (link_number o) 0) ≡ true
    link none = refl
    link (some n) = refl

pub junctions_all : (text : List ℕ) (js : List Junction) → every (junction_spelt text) js ≡ true
    → every (connection_spelt text) (all_connections js) ≡ true
unfolding all_connections
junctions_all text js h =
    every_gather (connection_spelt text) (λ j. j.connections) js
    ∙ each_every (λ j. every (connection_spelt text) j.connections) js
    (each_map (λ j q. and_right (placed text j.name) (every (connection_spelt text) j.connections) q) js
    (every_each (junction_spelt text) js h))

-- ---- what rules 2 to 8 and 10 say
pub record Passed (t : Tables) : Type 0 where
  pub worded : map_worded t && lanes_worded t ≡ true
  pub once : roads_once t ≡ true
  pub sections : sections_fit t ≡ true
  pub connections : connections_fit t ≡ true
  pub identities : identities_once t ≡ true
  pub listed : lanes_listed t ≡ true
  pub keys : keys_once t ≡ true
  pub edges : edges_fit t ≡ true

-- a map with its lanes' edges: all that makes its words pass
pub record Sound (text : List ℕ) (m : Map) (xs : List EdgedLane) : Type 0 where
  pub spelt : Spelt text m
  pub good : Good (same_in text) m
  pub match : map (λ x. x.lane) xs ≡ m.lanes
  pub six : Each Six xs

module _ (text : List ℕ) (m : Map) (xs : List EdgedLane) (h : Sound text m xs) where
  pub is_map : map_of (tables_of text m xs) ≡ m
  is_map = map_back text m xs (plain_roads text m h.spelt)

  pub is_edged : edged_lanes_of (tables_of text m xs) ≡ xs
  is_edged = edged_whole text m xs h.match h.six

  pub is_roads : roads_of (tables_of text m xs) ≡ m.roads
  is_roads = (unfold map_of in ap (λ (x : Map). x.roads) is_map)

  pub is_junctions : junctions_of (tables_of text m xs) ≡ m.junctions
  is_junctions = (unfold map_of in ap (λ (x : Map). x.junctions) is_map)

  pub is_lanes : lanes_of (tables_of text m xs) ≡ m.lanes
  is_lanes = (unfold map_of in ap (λ (x : Map). x.lanes) is_map)

  roads_words : every (road_worded text) (table 20 (road_words m.roads)) ≡ true
  unfolding road_words
  roads_words =
      ap (every (road_worded text))
      (table_from 20 road_row (λ r. r.sections) road_width_lem (omega arith) 0 m.roads)
      ∙ row_list_every (road_worded text) road_row (λ r. r.sections) (λ r. road_spelt text r ≡ true)
      (road_words_lem text) 0 m.roads (every_each (road_spelt text) m.roads h.spelt.of_roads_lem)

  junctions_words : every (junction_worded text) (table 5 (junction_words m.junctions)) ≡ true
  unfolding junction_words
  junctions_words =
      ap (every (junction_worded text))
      (table_from 5 junction_row (λ j. j.connections) junction_width_lem (omega arith) 0 m.junctions)
      ∙ row_list_every (junction_worded text) junction_row (λ j. j.connections) (λ j. junction_spelt text j ≡ true)
      (words_of_junctions text) 0 m.junctions
      (every_each (junction_spelt text) m.junctions h.spelt.of_junctions_lem)

  connections_words : every (connection_worded text) (table 7 (connection_words m.junctions)) ≡ true
  unfolding connection_words
  connections_words =
      ap (every (connection_worded text))
      (table_from 7 connection_row (λ c. c.pairs) connection_width_lem (omega arith) 0
      (all_connections m.junctions))
      ∙ row_list_every (connection_worded text) connection_row (λ c. c.pairs) (λ c. connection_spelt text c ≡ true)
      (connection_words_lem text) 0 (all_connections m.junctions)
      (every_each (connection_spelt text) (all_connections m.junctions)
      (junctions_all text m.junctions h.spelt.of_junctions_lem))

  lanes_words : every (lane_worded text) (table 10 (lane_words m.lanes)) ≡ true
  unfolding lane_words
  lanes_words =
      ap (every (lane_worded text)) (table_even 10 lane_row m.lanes (omega arith) (each lane_width_lem m.lanes))
      ∙ every_map lane_row (lane_worded text) m.lanes
      ∙ each_every (λ l. lane_worded text (lane_row l)) m.lanes
      (each_map (lane_words_lem text) m.lanes (every_each (lane_spelt text) m.lanes h.spelt.of_lanes))

  sections_placed : parts_fit 18 19 0 (length (section_words m.roads)) (table 20 (road_words m.roads)) ≡ true
  unfolding road_words section_words
  sections_placed =
      ap₂ (λ (k : ℕ) (rs : List (List ℕ)). parts_fit 18 19 0 k rs) from_zero
      (table_from 20 road_row (λ r. r.sections) road_width_lem (omega arith) 0 m.roads)
      ∙ parts_fit_lem 18 19 road_row (λ r. r.sections) (λ i x. unfold road_row in refl)
      (λ i x. unfold road_row in refl) 0 m.roads
    where
      from_zero : length (gather (λ (r : Road). r.sections) m.roads)
          ≡ 0 + length (gather (λ (r : Road). r.sections) m.roads)
      from_zero = omega arith

  connections_placed : parts_fit 3 4 0 (length (connection_words m.junctions) / 7)
      (table 5 (junction_words m.junctions)) ≡ true
  unfolding connection_words junction_words
  connections_placed =
      ap₂ (λ (k : ℕ) (rs : List (List ℕ)). parts_fit 3 4 0 k rs) from_zero
      (table_from 5 junction_row (λ j. j.connections) junction_width_lem (omega arith) 0 m.junctions)
      ∙ parts_fit_lem 3 4 junction_row (λ j. j.connections) (λ i x. unfold junction_row in refl)
      (λ i x. unfold junction_row in refl) 0 m.junctions
    where
      rows_are : length
          (rows_from connection_row (λ (c : Connection). c.pairs) 0 (all_connections m.junctions)) / 7
          ≡ length (all_connections m.junctions)
      rows_are =
          ap (λ (k : ℕ). k / 7)
          (length_rows_from 7 connection_row (λ c. c.pairs) connection_width_lem 0 (all_connections m.junctions))
          ∙ mul-div_cancel (length (all_connections m.junctions)) (omega arith)

      from_zero : length
          (rows_from connection_row (λ (c : Connection). c.pairs) 0 (all_connections m.junctions)) / 7
          ≡ 0 + length (gather (λ (j : Junction). j.connections) m.junctions)
      from_zero =
          rows_are
          ∙ (unfold all_connections in (let k = length (gather (λ (j : Junction). j.connections) m.junctions) in
          let e : k ≡ 0 + k = omega arith in e))

  pairs_placed : parts_fit 5 6 0 (length (pair_words m.junctions) / 2)
      (table 7 (connection_words m.junctions)) ≡ true
  unfolding connection_words pair_words
  pairs_placed =
      ap₂ (λ (k : ℕ) (rs : List (List ℕ)). parts_fit 5 6 0 k rs) from_zero
      (table_from 7 connection_row (λ c. c.pairs) connection_width_lem (omega arith) 0
      (all_connections m.junctions))
      ∙ parts_fit_lem 5 6 connection_row (λ c. c.pairs) (λ i x. unfold connection_row in refl)
      (λ i x. unfold connection_row in refl) 0 (all_connections m.junctions)
    where
      rows_are : length (gather pair_row (all_pairs m.junctions)) / 2 ≡ length (all_pairs m.junctions)
      rows_are =
          ap (λ (k : ℕ). k / 2)
          (length_even 2 pair_row (all_pairs m.junctions) (each pair_width_lem (all_pairs m.junctions)))
          ∙ mul-div_cancel (length (all_pairs m.junctions)) (omega arith)

      from_zero : length (gather pair_row (all_pairs m.junctions)) / 2
          ≡ 0 + length (gather (λ (c : Connection). c.pairs) (all_connections m.junctions))
      from_zero =
          rows_are
          ∙ (unfold all_pairs in
          (let k = length (gather (λ (c : Connection). c.pairs) (all_connections m.junctions)) in
          let e : k ≡ 0 + k = omega arith in e))

  edges_placed : eqb (length (edge_words xs)) (12 * (length (lane_words m.lanes) / 10)) ≡ true
  unfolding edge_words lane_words
  edges_placed = eq-eqb (length (gather edge_row xs)) (12 * (length (gather lane_row m.lanes) / 10)) (
      let edge-words = length_even 12 edge_row xs (each_map edge_width_lem xs h.six) in
      let lane-rows =
      ap (λ (k : ℕ). k / 10) (length_even 10 lane_row m.lanes (each lane_width_lem m.lanes))
      ∙ mul-div_cancel (length m.lanes) (omega arith) in
      let c : length xs ≡ length m.lanes = sym (length-map xs (λ x. x.lane)) ∙ ap length h.match in
      omega arith)

  -- the words of a sound map pass
  pub passed : Passed (tables_of text m xs)
  unfolding tables_of
  passed = record {
    worded = (unfold map_worded lanes_worded tables_of in ap₂ (λ x y. x && y)
        (ap₂ (λ x y. x && y) (ap₂ (λ x y. x && y) roads_words junctions_words) connections_words) lanes_words);
    once = (unfold names_once in
        (ap (distinct (λ (a b : Road). same_in text a.name b.name)) is_roads ∙ h.good.names_once_lem));
    sections = (unfold section_parts_fit sections_ascend tables_of in ap₂ (λ x y. x && y) sections_placed
        (ap (every (λ (r : Road). ascends r.sections)) (unfold tables_of in is_roads) ∙ h.good.ascending));
    connections =
        (unfold connection_parts_fit pair_parts_fit tables_of in ap₂ (λ x y. x && y) connections_placed pairs_placed);
    identities = (unfold ids_once in
        (ap (distinct (λ (a b : Lane). eqb a.identity b.identity)) is_lanes ∙ h.good.identities_once_lem));
    listed = (unfold listed_in in (ap₂ (λ (rs : List Road) (ls : List Lane).
        every (λ l. member l.section (sections_of (same_in text) rs l.road)) ls) is_roads is_lanes
        ∙ h.good.placed));
    keys = (unfold places_once in (ap (distinct (same_key (same_in text))) is_lanes ∙ h.good.keys_once_lem));
    edges = (unfold edges_even tables_of in edges_placed);
  }
