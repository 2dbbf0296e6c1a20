-- The offsets that succession writes are words, and its identities keep within the limit; after it the gap
-- check can refuse by 9 alone.
use mathlib.Core.Path.{◌≡◌, sym, ◌∙◌, ap}
use mathlib.Core.Bool.{Bool, true, ◌&&◌}
use mathlib.Core.Option.{none}
use mathlib.Core.List.{map}
use Prim.Native.Nat.{ℕ, suc, ◌+◌, ◌*◌, ◌/◌, ◌%◌, ◌≤◌, ◌<◌}
use native.Mathlib.Nat.{mul-le-mul, div-le_of_le-mul, mul_comm, mod-one, mul-mod_right}
use native.Mathlib.Omega.{arith}
use lib.Dec.{eqb, leb}
use lib.ListN.{length, length-map}
use borrow.Author.Tests.{eqb-true, eq-eqb, le-leb}
use Rattle.model.specs.Calls.{gap_rules, lane_rules, list_content, rules_to5, succession_rules}
use Rattle.model.specs.Lists.{ascends, every, gather, member}
use Rattle.model.specs.Records.{Connection, Junction, Lane, Road}
use Rattle.model.specs.Rows.{parts_fit, table}
use Rattle.model.specs.Rules.{connection_parts_fit, connection_worded, edges_even, edges_fit, edges_sized}
use Rattle.model.specs.Rules.{first_broken, ids_once, junction_worded, lanes_sized, lanes_worded, listed_in}
use Rattle.model.specs.Rules.{lists_sized, map_sized, map_worded, pair_parts_fit, places_once, road_worded, same}
use Rattle.model.specs.Rules.{section_parts_fit, sections_ascend, sized}
use Rattle.model.specs.Succession.{exits, sections_of, successor_lists, successors}
use Rattle.model.specs.Tables.{Tables, all_connections, all_pairs, connection_in, connections_in, connections_of}
use Rattle.model.specs.Tables.{junctions_in, junctions_of, lane_in, lanes_in, lanes_of, map_of, pair_in, pairs_in}
use Rattle.model.specs.Tables.{pairs_of, roads_of}
use Rattle.laws.proofs.Admitted.{sized_most, sized_whole, sizes_of_lem, worded_of}
use Rattle.laws.proofs.Bound.{ids_few, predecessors_few, sum_of}
use Rattle.laws.proofs.ByBytes.{alike_in}
use Rattle.laws.proofs.Decoded.{connections_forth, junctions_forth}
use Rattle.laws.proofs.Eleven.{eleven, offsets_count}
use Rattle.laws.proofs.ForEach.{each_map}
use Rattle.laws.proofs.Lay.{length_table}
use Rattle.laws.proofs.ListTests.{and_both, and_left, and_right, every_each}
use Rattle.laws.proofs.RulesReversed.{ascends_fact, pass_all}
use Rattle.laws.proofs.Tight.{exits_all, ids_tight}
use Rattle.laws.proofs.Valid.{Valid}
use Rattle.laws.proofs.WordsReversed.{Listable, all_pairs_nested, listable}

module _ (t : Tables) (h : first_broken (succession_rules t) ≡ none) where
  facts : Listable t
  facts = listable t h

  sizes : (map_sized 16384 t ≡ true) × (lanes_sized t ≡ true)
  sizes = (
    and_left (map_sized 16384 t) (lanes_sized t) facts.sizes,
    and_right (map_sized 16384 t) (lanes_sized t) facts.sizes,
  )

  limits : (leb (length t.text) 1048576 ≡ true)
      × (sized 20 16384 (length t.roads) ≡ true)
      × (sized 1 16384 (length t.sections) ≡ true)
      × (sized 5 16384 (length t.junctions) ≡ true)
      × (sized 7 16384 (length t.connections) ≡ true)
      × (sized 2 16384 (length t.pairs) ≡ true)
  limits = sizes_of_lem 16384 t sizes.0

  worded : (every (road_worded t.text) (table 20 t.roads) ≡ true)
      × (every (junction_worded t.text) (table 5 t.junctions) ≡ true)
      × (every (connection_worded t.text) (table 7 t.connections) ≡ true)
  worded = worded_of t (and_left (map_worded t) (lanes_worded t) facts.worded)

  parts : (parts_fit 3 4 0 (length t.connections / 7) (table 5 t.junctions) ≡ true)
      × (parts_fit 5 6 0 (length t.pairs / 2) (table 7 t.connections) ≡ true)
  unfolding connection_parts_fit pair_parts_fit
  parts = (
    and_left (parts_fit 3 4 0 (length t.connections / 7) (table 5 t.junctions))
        (parts_fit 5 6 0 (length t.pairs / 2) (table 7 t.connections)) facts.connections,
    and_right (parts_fit 3 4 0 (length t.connections / 7) (table 5 t.junctions))
        (parts_fit 5 6 0 (length t.pairs / 2) (table 7 t.connections)) facts.connections,
  )

  connection_rows : length t.connections / 7 ≡ length (connections_of t)
  unfolding connections_in
  connection_rows = sym (length-map (table 7 t.connections) (connection_in (pairs_of t)) ∙ length_table 7 t.connections)

  pair_rows : length t.pairs / 2 ≡ length (pairs_of t)
  unfolding pairs_in
  pair_rows = sym (length-map (table 2 t.pairs) pair_in ∙ length_table 2 t.pairs)

  all_connections_lem : all_connections (junctions_of t) ≡ connections_of t
  unfolding junctions_in
  all_connections_lem =
      (junctions_forth t.text t.junctions (connections_of t)
      (sized_whole 5 16384 (length t.junctions) limits.3) worded.1
      (ap (λ (k : ℕ). parts_fit 3 4 0 k (table 5 t.junctions)) (sym connection_rows) ∙ parts.0)).1

  all_pairs_lem : all_pairs (junctions_of t) ≡ pairs_of t
  unfolding all_pairs
  all_pairs_lem =
      ap (gather (λ (c : Connection). c.pairs)) all_connections_lem
      ∙ (unfold connections_in in (connections_forth t.text t.connections (pairs_of t)
      (sized_whole 7 16384 (length t.connections) limits.4) worded.2
      (ap (λ (k : ℕ). parts_fit 5 6 0 k (table 7 t.connections)) (sym pair_rows) ∙ parts.1)).1)

  pairs_few : length
      (gather (λ (j : Junction). gather (λ (c : Connection). c.pairs) j.connections) (junctions_of t)) ≤
      16384
  pairs_few =
      let words-few = sized_most 2 16384 (length t.pairs) limits.5 in
      let rows_few : length t.pairs / 2 ≤ 16384 = div-le_of_le-mul 2 (omega (arith, mul_comm 16384 2)) in
      omega (arith, ap length (sym (all_pairs_nested (junctions_of t)) ∙ all_pairs_lem), pair_rows)

  lanes_few : length (lanes_of t) ≤ 16384
  unfolding lanes_in
  lanes_few =
      let words-few = sized_most 10 16384 (length t.lanes) (unfold lanes_sized in sizes.1) in
      let rows_few : length t.lanes / 10 ≤ 16384 = div-le_of_le-mul 10 (omega arith) in
      omega (arith, length-map (table 10 t.lanes) lane_in, length_table 10 t.lanes)

  -- at most 805,322,752 of them
  pub successors_words : length (list_content t).successor_ids < 4294967296
  unfolding list_content map_of places_once
  successors_words =
      omega (
        arith,
        ids_few (same t) (alike_in t.text) (map_of t) facts.keys,
        pairs_few,
        lanes_few,
        mul-le-mul lanes_few factor,
      )
    where
      factor : suc (length
          (gather (λ (j : Junction). gather (λ (c : Connection). c.pairs) j.connections) (junctions_of t))) +
          suc (length
          (gather (λ (j : Junction). gather (λ (c : Connection). c.pairs) j.connections) (junctions_of t))) +
          length (lanes_of t) ≤ 49154
      factor = omega (arith, pairs_few, lanes_few)

  pub predecessors_words : length (list_content t).predecessor_ids < 4294967296
  unfolding list_content map_of ids_once
  predecessors_words =
      omega (arith, predecessors_few (same t) (map_of t) facts.identities, successors_words)

  -- ---- 01's limit on packed identities is never passed
  valid : Valid (same t) (map_of t)
  unfolding section_parts_fit sections_ascend listed_in map_of
  valid = record {
    ascending = each_map (λ (r : Road) q. ascends_fact r.sections q) (roads_of t)
        (every_each (λ (r : Road). ascends r.sections) (roads_of t)
        (and_right (parts_fit 18 19 0 (length t.sections) (table 20 t.roads))
        (every (λ (r : Road). ascends r.sections) (roads_of t)) facts.sections));
    placed = every_each (λ (l : Lane). member l.section (sections_of (same t) (roads_of t) l.road))
        (lanes_of t) facts.listed;
  }

  pub ids_limit : length (list_content t).successor_ids ≤ 131072
  unfolding list_content map_of places_once ids_once
  ids_limit =
      let tight = ids_tight (same t) (alike_in t.text) (map_of t) valid facts.keys facts.identities in
      omega (arith, tight, pairs_few, lanes_few)

  -- at each end, at most one for each lane and one for each pair
  pub exits_limit : (e : Bool) → sum_of (λ (l : Lane). length (exits (same t) (map_of t) l e)) (lanes_of t) ≤ 32768
  unfolding places_once map_of
  exits_limit e =
      omega (
        arith,
        exits_all (same t) (alike_in t.text) (map_of t) valid facts.keys e,
        pairs_few,
        lanes_few,
      )

  sized_one : (most n : ℕ) → n ≤ most → sized 1 most n ≡ true
  unfolding sized
  sized_one most n l =
      and_both (eqb (n % 1) 0) (leb n (most * 1)) (eq-eqb (n % 1) 0 (mod-one n))
      (le-leb n (most * 1) (omega arith))

  lists_sized_lem : lists_sized (list_content t).successor_offsets (list_content t).successor_ids ≡ true
  unfolding lists_sized
  lists_sized_lem =
      and_both (sized 1 16385 (length (list_content t).successor_offsets))
      (sized 1 131072 (length (list_content t).successor_ids))
      (sized_one 16385 (length (list_content t).successor_offsets)
      (omega (arith, offsets_are, lanes_few)))
      (sized_one 131072 (length (list_content t).successor_ids) ids_limit)
    where
      offsets_are : length (list_content t).successor_offsets ≡ suc (length (lanes_of t))
      offsets_are =
          unfold list_content successor_lists map_of in
          (offsets_count 0 (map (successors (same t) (map_of t)) (lanes_of t))
          ∙ ap suc (length-map (lanes_of t) (successors (same t) (map_of t))))

  edges_sized_lem : edges_fit t ≡ true → edges_sized t ≡ true
  unfolding edges_even edges_sized sized lanes_in
  edges_sized_lem edges_hold =
      let twelve-each = eqb-true (length t.edges) (12 * (length t.lanes / 10)) edges_hold in
      let whole = ap (λ (k : ℕ). k % 12) twelve-each ∙ mul-mod_right 12 (length t.lanes / 10) in
      let few : length t.edges ≤ 16384 * 12
      = omega (arith, length-map (table 10 t.lanes) lane_in, length_table 10 t.lanes, lanes_few) in
      and_both (eqb (length t.edges % 12) 0) (leb (length t.edges) (16384 * 12))
      (eq-eqb (length t.edges % 12) 0 whole) (le-leb (length t.edges) (16384 * 12) few)

  -- so after an accepted succession the gap check, with twelve edges for each lane, can refuse by 9 alone
  pub through : edges_fit t ≡ true
      → first_broken (gap_rules t (list_content t).successor_offsets (list_content t).successor_ids) ≡ none
  unfolding gap_rules rules_to5 lane_rules
  through edges_hold =
      let map-sized =
      and_both (map_sized 16384 t && lanes_sized t) (edges_sized t) facts.sizes (edges_sized_lem edges_hold) in
      let all-sized = and_both (map_sized 16384 t && lanes_sized t && edges_sized t)
      (lists_sized (list_content t).successor_offsets (list_content t).successor_ids) map-sized lists_sized_lem in
      pass_all (gap_rules t (list_content t).successor_offsets (list_content t).successor_ids) (
        all-sized,
        (
          facts.worded,
          (
            facts.once,
            (
              facts.sections,
              (
                facts.connections,
                (facts.identities, (facts.listed, (facts.keys, (edges_hold, (eleven t, tt))))),
              ),
            ),
          ),
        ),
      )
