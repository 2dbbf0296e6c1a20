-- Tables that pass rules 1 to 8 and 10 mean a sound map, and are its words.
use mathlib.Core.Path.{◌≡◌, refl, sym, ◌∙◌, ap, ap₂}
use mathlib.Core.Bool.{Bool, true, false, ◌&&◌, ◌||◌, cond}
use mathlib.Core.Option.{none, some}
use mathlib.Core.List.{List, map}
use Prim.Native.Nat.{ℕ, ◌*◌, ◌/◌, ◌%◌, ◌≤◌}
use native.Mathlib.Nat.{mul-div_cancel}
use native.Mathlib.Omega.{arith}
use lib.Dec.{eqb, leb}
use lib.ListN.{length, drop, length-map}
use borrow.Author.Tests.{eqb-true, leb-true}
use Rattle.model.specs.Lists.{ascends, every, gather}
use Rattle.model.specs.Records.{Connection, Pair, Road}
use Rattle.model.specs.Rows.{part, parts_fit, rows_from, table, word}
use Rattle.model.specs.Rules.{connection_parts_fit, connection_worded, edges_even, edges_sized, ids_once}
use Rattle.model.specs.Rules.{junction_worded, lane_worded, lanes_sized, lanes_worded, link_worded, listed_in}
use Rattle.model.specs.Rules.{map_sized, map_worded, names_once, pair_parts_fit, places_once, road_worded}
use Rattle.model.specs.Rules.{section_parts_fit, sections_ascend, sized, target_worded}
use Rattle.model.specs.Tables.{Tables, all_connections, all_pairs, connection_in, connection_row, connection_words}
use Rattle.model.specs.Tables.{connections_in, connections_of, edge_words, edged_lanes_of, flag, is_absent}
use Rattle.model.specs.Tables.{junction_in, junction_words, junctions_in, junctions_of, lane_in, lane_words, lanes_in}
use Rattle.model.specs.Tables.{lanes_of, map_of, pair_in, pair_row, pair_words, pairs_in, pairs_of, road_in, road_words}
use Rattle.model.specs.Tables.{roads_in, roads_of, section_words, span_in, tables_of, target_of}
use Rattle.model.specs.Text.{placed, same_in}
use Rattle.laws.proofs.Decoded.{and3, and4, and5, and6, connections_forth, edges_forth, ends_six}
use Rattle.laws.proofs.Decoded.{junctions_forth, lanes_forth, lanes_with, pairs_forth, roads_forth}
use Rattle.laws.proofs.ForEach.{each_drop, each_map, each_take}
use Rattle.laws.proofs.Lay.{gather_table, length_table, table_width}
use Rattle.laws.proofs.ListTests.{and_both, and_left, and_right, each_every, every_each, every_map}
use Rattle.laws.proofs.RulesReversed.{Good}
use Rattle.laws.proofs.SoundMaps.{Passed, Sound, Spelt, connection_spelt, junction_spelt, lane_spelt}
use Rattle.laws.proofs.SoundMaps.{name_spelt, road_spelt, target_spelt}

-- ---- tables that pass mean a sound map, and are its words
-- all lengths are whole rows, and the text is short
pub record Whole (t : Tables) : Type 0 where
  pub short : leb (length t.text) 1048576 ≡ true
  pub of_roads_lem : length t.roads % 20 ≡ 0
  pub of_junctions_lem : length t.junctions % 5 ≡ 0
  pub of_connections : length t.connections % 7 ≡ 0
  pub of_pairs : length t.pairs % 2 ≡ 0
  pub of_lanes : length t.lanes % 10 ≡ 0
  pub of_edges : length t.edges % 12 ≡ 0

-- rule 1 taken apart
pub sized_whole : (w most n : ℕ) → sized w most n ≡ true → n % w ≡ 0
unfolding sized
sized_whole w most n h = eqb-true (n % w) 0 (and_left (eqb (n % w) 0) (leb n (most * w)) h)

pub sized_most : (w most n : ℕ) → sized w most n ≡ true → n ≤ most * w
unfolding sized
sized_most w most n h = leb-true n (most * w) (and_right (eqb (n % w) 0) (leb n (most * w)) h)

pub sizes_of_lem : (most : ℕ) (t : Tables) → map_sized most t ≡ true →
    (leb (length t.text) 1048576 ≡ true)
    × (sized 20 16384 (length t.roads) ≡ true)
    × (sized 1 16384 (length t.sections) ≡ true)
    × (sized 5 16384 (length t.junctions) ≡ true)
    × (sized 7 most (length t.connections) ≡ true)
    × (sized 2 most (length t.pairs) ≡ true)
unfolding map_sized
sizes_of_lem most t h =
    and6 (leb (length t.text) 1048576) (sized 20 16384 (length t.roads))
    (sized 1 16384 (length t.sections)) (sized 5 16384 (length t.junctions))
    (sized 7 most (length t.connections)) (sized 2 most (length t.pairs)) h

pub whole : (most : ℕ) (t : Tables) → map_sized most t ≡ true → lanes_sized t ≡ true → edges_sized t ≡ true → Whole t
unfolding lanes_sized edges_sized
whole most t h l e =
    let w = sizes_of_lem most t h in
    record {
      short = w.0;
      of_roads_lem = sized_whole 20 16384 (length t.roads) w.1;
      of_junctions_lem = sized_whole 5 16384 (length t.junctions) w.3;
      of_connections = sized_whole 7 most (length t.connections) w.4;
      of_pairs = sized_whole 2 most (length t.pairs) w.5;
      of_lanes = sized_whole 10 16384 (length t.lanes) l;
      of_edges = sized_whole 12 16384 (length t.edges) e;
    }

-- rule 2 taken apart
pub worded_of : (t : Tables) → map_worded t ≡ true
    → (every (road_worded t.text) (table 20 t.roads) ≡ true)
    × (every (junction_worded t.text) (table 5 t.junctions) ≡ true)
    × (every (connection_worded t.text) (table 7 t.connections) ≡ true)
unfolding map_worded
worded_of t h =
    and3 (every (road_worded t.text) (table 20 t.roads))
    (every (junction_worded t.text) (table 5 t.junctions))
    (every (connection_worded t.text) (table 7 t.connections)) h

every_part : {A : Type 0} (p : A → Bool) (first count : ℕ) (xs : List A) → every p xs ≡ true
    → every p (part first count xs) ≡ true
every_part p first count xs h =
    each_every p (part first count xs)
    (each_take (λ x. p x ≡ true) count (drop first xs)
    (each_drop (λ x. p x ≡ true) first xs (every_each p xs h)))

target_spelt_lem : (text : List ℕ) (p k s n c g a : ℕ) → target_worded text p k s n c g a ≡ true
    → target_spelt text (target_of p k s n c g a) ≡ true
unfolding target_worded
target_spelt_lem text p k s n c g a h = go (flag p) (and_right (leb p 1) _ h)
  where
    go : (b : Bool)
        → cond b (leb k 1 && placed text (record { start = s; size = n }) && leb c 1 && leb g 1 && leb a 1)
        (eqb k 0 && eqb s 0 && eqb n 0 && eqb c 0 && eqb g 0 && eqb a 0) ≡ true →
        target_spelt text (cond b (some (record {
          is_junction = flag k;
          name = record { start = s; size = n };
          contact = flag c;
          given = flag g;
          along = flag a;
        })) none) ≡ true
    go true h = (and5 (leb k 1) (placed text (record { start = s; size = n })) (leb c 1) (leb g 1) (leb a 1) h).1
    go false h = refl

name_spelt_lem : (text : List ℕ) (s n : ℕ) → is_absent s n || placed text (record { start = s; size = n }) ≡ true
    → name_spelt text (cond (is_absent s n) none (some (record { start = s; size = n }))) ≡ true
name_spelt_lem text s n h = go (is_absent s n) h
  where
    go : (b : Bool) → b || placed text (record { start = s; size = n }) ≡ true
        → name_spelt text (cond b none (some (record { start = s; size = n }))) ≡ true
    go true h = refl
    go false h = h

road_spelt_lem : (text ss r : List ℕ) → road_worded text r ≡ true → road_spelt text (road_in ss r) ≡ true
unfolding road_worded road_in
road_spelt_lem text ss r h =
    let w = and4 (placed text (span_in r 0)) (is_absent (word r 2) (word r 3) || placed text (span_in r 2))
    (target_worded text (word r 4) (word r 5) (word r 6) (word r 7) (word r 8) (word r 9) (word r 10))
    (target_worded text (word r 11) (word r 12) (word r 13) (word r 14) (word r 15) (word r 16) (word r 17)) h in
    ap₂ (λ x y. x && y) (ap₂ (λ x y. x && y)
    (ap₂ (λ x y. x && y) w.0 (name_spelt_lem text (word r 2) (word r 3) w.1))
    (target_spelt_lem text (word r 4) (word r 5) (word r 6) (word r 7) (word r 8) (word r 9) (word r 10) w.2))
    (target_spelt_lem text (word r 11) (word r 12) (word r 13) (word r 14) (word r 15) (word r 16) (word r 17) w.3)

connection_spelt_lem : (text : List ℕ) (ps : List Pair) (r : List ℕ) → connection_worded text r ≡ true
    → connection_spelt text (connection_in ps r) ≡ true
unfolding connection_worded connection_in
connection_spelt_lem text ps r h =
    and_left (placed text (span_in r 0) && placed text (span_in r 2)) (leb (word r 4) 1) h

junction_spelt_lem : (text : List ℕ) (cs : List Connection) (r : List ℕ) → every (connection_spelt text) cs ≡ true
    → junction_worded text r ≡ true → junction_spelt text (junction_in cs r) ≡ true
unfolding junction_worded junction_in
junction_spelt_lem text cs r q h =
    and_both (placed text (span_in r 0)) (every (connection_spelt text) (part (word r 3) (word r 4) cs))
    (and_left (placed text (span_in r 0)) (leb (word r 2) 2) h)
    (every_part (connection_spelt text) (word r 3) (word r 4) cs q)

lane_spelt_lem : (text r : List ℕ) → lane_worded text r ≡ true → lane_spelt text (lane_in r) ≡ true
unfolding lane_worded lane_in
lane_spelt_lem text r h =
    (and4 (placed text (span_in r 1)) (leb (word r 5) 2) (link_worded (word r 6) (word r 7))
    (link_worded (word r 8) (word r 9)) h).0

every_over : {A B : Type 0} (f : A → B) (p : B → Bool) (q : A → Bool) (xs : List A)
    → ((x : A) → q x ≡ true → p (f x) ≡ true) → every q xs ≡ true → every p (map f xs) ≡ true
every_over f p q xs k h = every_map f p xs ∙ each_every (λ x. p (f x)) xs (each_map k xs (every_each q xs h))

module _ (t : Tables) (w : Whole t) (p : Passed t) where
  worded_map : (every (road_worded t.text) (table 20 t.roads) ≡ true)
      × (every (junction_worded t.text) (table 5 t.junctions) ≡ true)
      × (every (connection_worded t.text) (table 7 t.connections) ≡ true)
  worded_map = worded_of t (and_left (map_worded t) (lanes_worded t) p.worded)

  worded_lanes : every (lane_worded t.text) (table 10 t.lanes) ≡ true
  worded_lanes = (unfold lanes_worded in and_right (map_worded t) (lanes_worded t) p.worded)

  connections_spelt : every (connection_spelt t.text) (connections_of t) ≡ true
  unfolding connections_in
  connections_spelt =
      every_over (connection_in (pairs_of t)) (connection_spelt t.text) (connection_worded t.text)
      (table 7 t.connections) (connection_spelt_lem t.text (pairs_of t)) worded_map.2

  pub is_spelt : Spelt t.text (map_of t)
  unfolding map_of roads_in junctions_in lanes_in
  is_spelt = record {
    short = w.short;
    of_roads_lem = every_over (road_in t.sections) (road_spelt t.text) (road_worded t.text)
        (table 20 t.roads) (road_spelt_lem t.text t.sections) worded_map.0;
    of_junctions_lem = every_over (junction_in (connections_of t)) (junction_spelt t.text)
        (junction_worded t.text) (table 5 t.junctions)
        (λ r q. junction_spelt_lem t.text (connections_of t) r connections_spelt q) worded_map.1;
    of_lanes = every_over lane_in (lane_spelt t.text) (lane_worded t.text) (table 10 t.lanes)
        (lane_spelt_lem t.text) worded_lanes;
  }

  pub is_good : Good (same_in t.text) (map_of t)
  unfolding map_of
  is_good = record {
    names_once_lem = (unfold names_once in p.once);
    ascending = (unfold section_parts_fit sections_ascend in and_right
        (parts_fit 18 19 0 (length t.sections) (table 20 t.roads))
        (every (λ (r : Road). ascends r.sections) (roads_of t)) p.sections);
    identities_once_lem = (unfold ids_once in p.identities);
    placed = (unfold listed_in in p.listed);
    keys_once_lem = (unfold places_once in p.keys);
  }

  lanes_edges : length (lanes_of t) ≡ length (table 12 t.edges)
  unfolding lanes_in
  lanes_edges =
      length-map (table 10 t.lanes) lane_in
      ∙ length_table 10 t.lanes
      ∙ sym (length_table 12 t.edges ∙ rows_are)
    where
      rows_are : length t.edges / 12 ≡ length t.lanes / 10
      rows_are =
          ap (λ (k : ℕ). k / 12) (eqb-true (length t.edges) (12 * (length t.lanes / 10))
          (unfold edges_even in p.edges)
          ∙ native.Mathlib.Nat.mul_comm 12 (length t.lanes / 10))
          ∙ mul-div_cancel (length t.lanes / 10) (omega arith)

  pub is_sound : Sound t.text (map_of t) (edged_lanes_of t)
  is_sound = record {
    spelt = is_spelt;
    good = is_good;
    match = (unfold edged_lanes_of map_of in lanes_with (lanes_of t) (table 12 t.edges) lanes_edges);
    six = (unfold edged_lanes_of in ends_six (lanes_of t) (table 12 t.edges)
        (table_width 12 t.edges w.of_edges));
  }

  -- encode after decode
  pub forth : tables_of t.text (map_of t) (edged_lanes_of t) ≡ t
  unfolding tables_of map_of edged_lanes_of edge_words
  forth = λ i. record {
    text = t.text;
    roads = roads_are.0 i;
    sections = roads_are.1 i;
    junctions = junctions_are.0 i;
    connections = connections_are i;
    pairs = pairs_are i;
    lanes = lanes_are i;
    edges = (edges_forth (lanes_of t) (table 12 t.edges) lanes_edges ∙ gather_table 12 t.edges w.of_edges) i;
  }
    where
      fits4 : parts_fit 18 19 0 (length t.sections) (table 20 t.roads) ≡ true
      fits4 =
          unfold section_parts_fit sections_ascend in and_left
          (parts_fit 18 19 0 (length t.sections) (table 20 t.roads))
          (every (λ (r : Road). ascends r.sections) (roads_of t)) p.sections

      roads_are : (road_words (roads_of t) ≡ t.roads) × (section_words (roads_of t) ≡ t.sections)
      roads_are = unfold roads_in in roads_forth t.text t.roads t.sections w.of_roads_lem worded_map.0 fits4

      count7 : length t.connections / 7 ≡ length (connections_of t)
      count7 =
          unfold connections_in in sym
          (length-map (table 7 t.connections) (connection_in (pairs_of t)) ∙ length_table 7 t.connections)

      count2 : length t.pairs / 2 ≡ length (pairs_of t)
      count2 = unfold pairs_in in sym (length-map (table 2 t.pairs) pair_in ∙ length_table 2 t.pairs)

      fits5 : parts_fit 3 4 0 (length (connections_of t)) (table 5 t.junctions) ≡ true
      fits5 =
          ap (λ (k : ℕ). parts_fit 3 4 0 k (table 5 t.junctions)) (sym count7)
          ∙ (unfold connection_parts_fit pair_parts_fit in and_left
          (parts_fit 3 4 0 (length t.connections / 7) (table 5 t.junctions))
          (parts_fit 5 6 0 (length t.pairs / 2) (table 7 t.connections)) p.connections)

      fits6 : parts_fit 5 6 0 (length (pairs_of t)) (table 7 t.connections) ≡ true
      fits6 =
          ap (λ (k : ℕ). parts_fit 5 6 0 k (table 7 t.connections)) (sym count2)
          ∙ (unfold connection_parts_fit pair_parts_fit in and_right
          (parts_fit 3 4 0 (length t.connections / 7) (table 5 t.junctions))
          (parts_fit 5 6 0 (length t.pairs / 2) (table 7 t.connections)) p.connections)

      junctions_are : (junction_words (junctions_of t) ≡ t.junctions)
          × (all_connections (junctions_of t) ≡ connections_of t)
      junctions_are =
          unfold junctions_in in junctions_forth t.text t.junctions (connections_of t) w.of_junctions_lem
          worded_map.1 fits5

      rows_are : (rows_from connection_row (λ (c : Connection). c.pairs) 0 (connections_of t) ≡ t.connections)
          × (gather (λ (c : Connection). c.pairs) (connections_of t) ≡ pairs_of t)
      rows_are =
          unfold connections_in in connections_forth t.text t.connections (pairs_of t) w.of_connections
          worded_map.2 fits6

      connections_are : connection_words (junctions_of t) ≡ t.connections
      connections_are =
          unfold connection_words in
          (ap (rows_from connection_row (λ (c : Connection). c.pairs) 0) junctions_are.1 ∙ rows_are.0)

      pairs_are : pair_words (junctions_of t) ≡ t.pairs
      pairs_are =
          unfold pair_words all_pairs in
          (ap (λ cs. gather pair_row (gather (λ (c : Connection). c.pairs) cs)) junctions_are.1
          ∙ ap (gather pair_row) rows_are.1
          ∙ (unfold pairs_in in pairs_forth t.text t.pairs w.of_pairs))

      lanes_are : lane_words (lanes_of t) ≡ t.lanes
      lanes_are = unfold lanes_in in lanes_forth t.text t.lanes w.of_lanes worded_lanes
