-- Repair at most doubles the connections and the pairs, so what it writes passes rules 1 to 5 at the limits of
-- the later calls.
use mathlib.Core.Path.{◌≡◌, refl, sym, ◌∙◌, ap, subst}
use mathlib.Core.Bool.{Bool, true, false, not, ◌&&◌, cond}
use mathlib.Core.Option.{Option, none, some}
use mathlib.Core.List.{List, [], ◌∷◌, ◌++◌, map}
use Prim.Native.Nat.{ℕ, suc, ◌+◌, ◌*◌, ◌%◌, ◌≤◌}
use native.Mathlib.Nat.{mul-mod_left}
use native.Mathlib.Omega.{arith}
use lib.Dec.{eqb, leb}
use lib.ListN.{length, length-append, length-map}
use borrow.Author.Tests.{le-leb, eq-eqb}
use Rattle.model.specs.Calls.{repair_content, repair_rules, rules_to5}
use Rattle.model.specs.Claim.{repaired_tables}
use Rattle.model.specs.Lists.{bind_o, gather, keep, list_o, some?}
use Rattle.model.specs.Records.{Connection, Junction, JunctionKind, Map, Road, Span, common, direct, virtual}
use Rattle.model.specs.Repair.{back_at, back_of, connections_after, junctions_over, meeting_end, repair}
use Rattle.model.specs.Repair.{repair_junction, repair_roads, reversed, road_of, runs_back, start_roads, swapped}
use Rattle.model.specs.Rows.{table}
use Rattle.model.specs.Rules.{connection_parts_fit, connections_fit, edges_even, edges_sized, first_broken, ids_once}
use Rattle.model.specs.Rules.{lanes_sized, lanes_worded, listed_in, map_sized, map_worded, names_once, pair_parts_fit}
use Rattle.model.specs.Rules.{places_once, roads_once, section_parts_fit, sections_ascend, sections_fit, sized}
use Rattle.model.specs.Tables.{Tables, all_connections, all_pairs, connection_words, connections_in, edged_lanes_of}
use Rattle.model.specs.Tables.{junction_words, junctions_in, lanes_in, map_of, map_tables, pair_words, pairs_in}
use Rattle.model.specs.Tables.{road_words, roads_in, section_words, tables_of}
use Rattle.model.specs.Text.{same_in}
use Rattle.laws.proofs.Admitted.{Whole, forth, is_sound, sized_most, sizes_of_lem, whole}
use Rattle.laws.proofs.ListTests.{and_both, and_left}
use Rattle.laws.proofs.RepairKeeps.{came_whole}
use Rattle.laws.proofs.RulesReversed.{all_pass, pass_all}
use Rattle.laws.proofs.SameFound.{repaired_tables_lem}
use Rattle.laws.proofs.SoundMaps.{Passed, Sound, passed}
use Rattle.laws.proofs.StaySound.{sound_repair}
use Rattle.laws.proofs.WordsReversed.{length_connections, length_junctions, length_pairs, length_roads}

-- how many connections, and how many pairs, a list has
abbrev pair_count : List Connection → ℕ
pair_count cs = length (gather (λ c. c.pairs) cs)

pairs_append : (a b : List Connection) → pair_count (a ++ b) ≡ pair_count a + pair_count b
pairs_append [] b = omega arith
pairs_append (c ∷ a) b =
    length-append c.pairs (gather (λ c. c.pairs) (a ++ b))
    ∙ ap (λ n. length c.pairs + n) (pairs_append a b)
    ∙ assoc (length c.pairs) (pair_count a) (pair_count b)
    ∙ ap (λ n. n + pair_count b) (sym (length-append c.pairs (gather (λ c. c.pairs) a)))
  where
    assoc : (x y z : ℕ) → x + (y + z) ≡ (x + y) + z
    assoc x y z = omega arith

-- at most n connections, with at most k pairs in all
record AtMost (n k : ℕ) (cs : List Connection) : Type 0 where
  connections : length cs ≤ n
  pairs : pair_count cs ≤ k

most_more : {n k m l : ℕ} {cs : List Connection} → n ≤ m → k ≤ l → AtMost n k cs → AtMost m l cs
most_more n-le k-le most = record {
  connections = omega (arith, n-le, most.connections);
  pairs = omega (arith, k-le, most.pairs);
}

most_all : (cs : List Connection) → AtMost (length cs) (pair_count cs) cs
most_all cs = record { connections = omega arith; pairs = omega arith }

most_append : {n k m l : ℕ} (a b : List Connection) → AtMost n k a → AtMost m l b → AtMost (n + m) (k + l) (a ++ b)
most_append a b of-a of-b = record {
  connections = omega (arith, length-append a b, of-a.connections, of-b.connections);
  pairs = omega (arith, pairs_append a b, of-a.pairs, of-b.pairs);
}

-- at most twice as many as cs
abbrev Doubled : (cs new : List Connection) → Type 0
Doubled cs new = AtMost (length cs + length cs) (pair_count cs + pair_count cs) new

module _ (same : Span → Span → Bool) where
  back_small : (rs : List Road) (j : Span) (c : Connection) → AtMost 1 (length c.pairs) (back_of same rs j c)
  unfolding back_of
  back_small rs j c = go (bind_o (road_of same rs c.incoming) (meeting_end same j))
    where
      one : (e : Bool) → pair_count (back_at c e ∷ []) ≡ length c.pairs
      one e =
          unfold back_at in (length-append (map swapped c.pairs) []
          ∙ ap (λ n. n + 0) (length-map c.pairs swapped)
          ∙ plus (length c.pairs))
        where
          plus : (n : ℕ) → n + 0 ≡ n
          plus n = omega arith

      go : (o : Option Bool) → AtMost 1 (length c.pairs) (list_o o (λ e. back_at c e ∷ []))
      go none = record { connections = omega arith; pairs = omega arith }
      go (some e) = record { connections = omega arith; pairs = omega (arith, one e) }

  backs_small : (rs : List Road) (j : Span) (p : Connection → Bool) (cs : List Connection)
      → AtMost (length cs) (pair_count cs) (gather (back_of same rs j) (keep p cs))
  backs_small rs j p [] = most_all []
  backs_small rs j p (c ∷ cs) = go (p c) (backs_small rs j p cs)
    where
      pairs_split : pair_count (c ∷ cs) ≡ length c.pairs + pair_count cs
      pairs_split = length-append c.pairs (gather (λ c. c.pairs) cs)

      go : (b : Bool) → AtMost (length cs) (pair_count cs) (gather (back_of same rs j) (keep p cs)) →
          AtMost (suc (length cs)) (pair_count (c ∷ cs))
          (gather (back_of same rs j) (cond b (c ∷ keep p cs) (keep p cs)))
      go true rest =
          let both = most_append _ _ (back_small rs j c) rest in
          most_more (omega arith) (omega (arith, pairs_split)) both
      go false rest = most_more (omega arith) (omega (arith, pairs_split)) rest

  after_small : (k : JunctionKind) (j : Span) (cs : List Connection) (rs : List Road)
      → Doubled cs (connections_after same k j cs rs)
  unfolding reversed
  after_small common j cs rs = most_more (omega arith) (omega arith) (most_all cs)
  after_small virtual j cs rs = most_more (omega arith) (omega arith) (most_all cs)
  after_small direct j cs rs =
      most_append cs _ (most_all cs) (backs_small rs j (λ c. not (some? (runs_back same c) cs)) cs)

  over_small : (js : List Junction) (rs : List Road)
      → Doubled (all_connections js) (all_connections (junctions_over same js rs))
  unfolding all_connections repair_junction
  over_small [] rs = most_all []
  over_small (j ∷ js) rs =
      let here = after_small j.kind j.name j.connections rs in
      let rest = over_small js (repair_roads same j rs) in
      let split = length-append j.connections (all_connections js) in
      let pairs_split = pairs_append j.connections (all_connections js) in
      most_more (omega (arith, split)) (omega (arith, pairs_split)) (most_append _ _ here rest)

  pub repair_small : (m : Map)
      → (length (all_connections (repair same m).junctions)
      ≤ length (all_connections m.junctions) + length (all_connections m.junctions))
      × (length (all_pairs (repair same m).junctions)
      ≤ length (all_pairs m.junctions) + length (all_pairs m.junctions))
  unfolding repair all_pairs
  repair_small m =
      let doubled = over_small m.junctions (start_roads same m) in
      (doubled.connections, doubled.pairs)

  count_over : (js : List Junction) (rs : List Road) → length (junctions_over same js rs) ≡ length js
  count_over [] rs = refl
  count_over (j ∷ js) rs = ap suc (count_over js (repair_roads same j rs))

  pub junctions_count : (m : Map) → length (repair same m).junctions ≡ length m.junctions
  unfolding repair
  junctions_count m = count_over m.junctions (start_roads same m)

-- ---- the tables that repair writes, at the limits of the later calls
-- repair reads no lanes: the tables without them
unfoldable bare : Tables → Tables
bare t = map_tables t.text t.roads t.sections t.junctions t.connections t.pairs

module _ (t : Tables) (h : first_broken (repair_rules t) ≡ none) where
  rules : (map_sized 8192 t ≡ true)
      × (map_worded t ≡ true)
      × (roads_once t ≡ true)
      × (sections_fit t ≡ true)
      × (connections_fit t ≡ true)
  unfolding repair_rules rules_to5
  rules = let p = all_pass (repair_rules t) h in (p.0, p.1.0, p.1.1.0, p.1.1.1.0, p.1.1.1.1.0)

  bare_passed : Passed (bare t)
  unfolding bare map_worded lanes_worded names_once section_parts_fit sections_ascend connection_parts_fit
      pair_parts_fit
      ids_once listed_in places_once edges_even roads_in lanes_in table
  bare_passed = record {
    worded = ap (λ b. b && true) rules.1;
    once = rules.2;
    sections = rules.3;
    connections = rules.4;
    identities = refl;
    listed = refl;
    keys = refl;
    edges = refl;
  }

  bare_whole : Whole (bare t)
  unfolding bare lanes_sized edges_sized sized map_sized
  bare_whole = whole 8192 (bare t) rules.0 refl refl

  abbrev m : Map
  m = map_of (bare t)

  sound : Sound t.text (map_of (bare t)) (edged_lanes_of (bare t))
  unfolding bare
  sound = is_sound (bare t) bare_whole bare_passed

  words_are : tables_of t.text (map_of (bare t)) (edged_lanes_of (bare t)) ≡ bare t
  unfolding bare
  words_are = forth (bare t) bare_whole bare_passed

  repaired_bare : repaired_tables (bare t)
      ≡ tables_of t.text (repair (same_in t.text) (map_of (bare t))) (edged_lanes_of (bare t))
  repaired_bare =
      ap repaired_tables (sym words_are)
      ∙ repaired_tables_lem t.text (map_of (bare t)) (edged_lanes_of (bare t)) sound

  repaired_passed : Passed (repaired_tables (bare t))
  repaired_passed =
      subst Passed (sym repaired_bare)
      (passed t.text (repair (same_in t.text) (map_of (bare t))) (edged_lanes_of (bare t))
      (sound_repair t.text (map_of (bare t)) (edged_lanes_of (bare t)) sound))

  -- rows below twice the limit
  sized_of : (w k n most : ℕ) → n ≡ k * w → k ≤ most → sized w most n ≡ true
  unfolding sized
  sized_of w k n most e l =
      and_both (eqb (n % w) 0) (leb n (most * w))
      (eq-eqb (n % w) 0 (ap (λ (a : ℕ). a % w) e ∙ mul-mod_left k w))
      (le-leb n (most * w) (subst (λ (a : ℕ). a ≤ most * w) (sym e) (native.Mathlib.Nat.mul-le-mul_right w l)))

  limits : (leb (length t.text) 1048576 ≡ true)
      × (sized 20 16384 (length t.roads) ≡ true)
      × (sized 1 16384 (length t.sections) ≡ true)
      × (sized 5 16384 (length t.junctions) ≡ true)
      × (sized 7 8192 (length t.connections) ≡ true)
      × (sized 2 8192 (length t.pairs) ≡ true)
  limits = sizes_of_lem 8192 t rules.0

  roads_words : length t.roads ≡ length (map_of (bare t)).roads * 20
  unfolding tables_of bare
  roads_words = ap (λ (u : Tables). length u.roads) (sym words_are) ∙ length_roads (map_of (bare t)).roads

  junctions_words : length t.junctions ≡ length (map_of (bare t)).junctions * 5
  unfolding tables_of bare
  junctions_words =
      ap (λ (u : Tables). length u.junctions) (sym words_are) ∙ length_junctions (map_of (bare t)).junctions

  connections_words : length t.connections ≡ length (all_connections (map_of (bare t)).junctions) * 7
  unfolding tables_of bare
  connections_words =
      ap (λ (u : Tables). length u.connections) (sym words_are)
      ∙ length_connections (map_of (bare t)).junctions

  pairs_words : length t.pairs ≡ length (all_pairs (map_of (bare t)).junctions) * 2
  unfolding tables_of bare
  pairs_words = ap (λ (u : Tables). length u.pairs) (sym words_are) ∙ length_pairs (map_of (bare t)).junctions

  roads_same : length (repair (same_in t.text) (map_of (bare t))).roads ≡ length (map_of (bare t)).roads
  roads_same =
      sym (length-map (repair (same_in t.text) (map_of (bare t))).roads (λ (r : Road). r.name))
      ∙ ap length (came_whole (same_in t.text) (map_of (bare t))).names_kept
      ∙ length-map (map_of (bare t)).roads (λ (r : Road). r.name)

  kept_sections : sized 1 16384 (length (section_words (repair (same_in t.text) (map_of (bare t))).roads)) ≡ true
  unfolding tables_of repaired_tables bare
  kept_sections = ap (λ (u : Tables). sized 1 16384 (length u.sections)) (sym repaired_bare) ∙ limits.2

  sized_bare : map_sized 16384 (repaired_tables (bare t)) ≡ true
  sized_bare = ap (map_sized 16384) repaired_bare ∙ inner
    where
      n : Map
      n = repair (same_in t.text) (map_of (bare t))

      roads_few : length (repair (same_in t.text) (map_of (bare t))).roads ≤ 16384
      roads_few =
          omega (arith, sized_most 20 16384 (length t.roads) limits.1, roads_words, roads_same)

      junctions_few : length (repair (same_in t.text) (map_of (bare t))).junctions ≤ 16384
      junctions_few =
          omega (
            arith,
            sized_most 5 16384 (length t.junctions) limits.3,
            junctions_words,
            junctions_count (same_in t.text) (map_of (bare t)),
          )

      connections_few : length (all_connections (repair (same_in t.text) (map_of (bare t))).junctions) ≤ 16384
      connections_few =
          omega (
            arith,
            sized_most 7 8192 (length t.connections) limits.4,
            connections_words,
            (repair_small (same_in t.text) (map_of (bare t))).0,
          )

      pairs_few : length (all_pairs (repair (same_in t.text) (map_of (bare t))).junctions) ≤ 16384
      pairs_few =
          omega (
            arith,
            sized_most 2 8192 (length t.pairs) limits.5,
            pairs_words,
            (repair_small (same_in t.text) (map_of (bare t))).1,
          )

      sections_few : sized 1 16384 (length (section_words (repair (same_in t.text) (map_of (bare t))).roads)) ≡ true
      sections_few = kept_sections

      inner : map_sized 16384
          (tables_of t.text (repair (same_in t.text) (map_of (bare t))) (edged_lanes_of (bare t))) ≡ true
      inner =
          unfold map_sized tables_of in λ i. limits.0 i && sized_of 20 (length n.roads)
          (length (road_words n.roads)) 16384 (length_roads n.roads) roads_few i
          && sections_few i
          && sized_of 5 (length n.junctions) (length (junction_words n.junctions)) 16384
          (length_junctions n.junctions) junctions_few i
          && sized_of 7 (length (all_connections n.junctions)) (length (connection_words n.junctions)) 16384
          (length_connections n.junctions) connections_few i
          && sized_of 2 (length (all_pairs n.junctions)) (length (pair_words n.junctions)) 16384
          (length_pairs n.junctions) pairs_few i

  -- what repair writes passes rules 1 to 5 at the limits of the later calls
  pub repair_admitted : first_broken
      (rules_to5 (map_sized 16384 (repaired_tables t)) (map_worded (repaired_tables t)) (repaired_tables t)) ≡ none
  unfolding rules_to5
  repair_admitted =
      pass_all (rules_to5 (map_sized 16384 (repaired_tables t)) (map_worded (repaired_tables t)) (repaired_tables t)) (
        sizes,
        (
          and_left (map_worded (repaired_tables t)) (lanes_worded (repaired_tables (bare t))) worded_both,
          (once, (sections, (connections, tt))),
        ),
      )
    where
      sizes : map_sized 16384 (repaired_tables t) ≡ true
      sizes =
          unfold map_sized repaired_tables bare repair_content repair start_roads map_of roads_in junctions_in
          connections_in pairs_in in sized_bare

      worded_both : map_worded (repaired_tables t) && lanes_worded (repaired_tables (bare t)) ≡ true
      worded_both =
          unfold map_worded repaired_tables bare repair_content repair start_roads map_of roads_in junctions_in
          connections_in pairs_in in repaired_passed.worded

      once : roads_once (repaired_tables t) ≡ true
      once =
          unfold names_once repaired_tables bare repair_content repair start_roads map_of roads_in junctions_in
          connections_in pairs_in in repaired_passed.once

      sections : sections_fit (repaired_tables t) ≡ true
      sections =
          unfold section_parts_fit sections_ascend repaired_tables bare repair_content repair start_roads map_of
          roads_in junctions_in connections_in pairs_in in repaired_passed.sections

      connections : connections_fit (repaired_tables t) ≡ true
      connections =
          unfold connection_parts_fit pair_parts_fit repaired_tables bare repair_content repair start_roads map_of
          roads_in junctions_in connections_in pairs_in in repaired_passed.connections
