-- What an admitted call may build on: the rules by rows, the walk's tables sound, and room for every lane's entries.
use Prim.Native.Nat.{ℕ, zero, suc, ◌+◌, ◌*◌, ◌/◌, ◌<◌, ◌≤◌}
use mathlib.Core.Path.{◌≡◌, refl, sym, ap, ◌∙◌, subst}
use mathlib.Core.Bool.{Bool, true, false, cond}
use mathlib.Core.Option.{none, some}
use mathlib.Core.List.{List, [], ◌∷◌, ◌++◌}
use native.Mathlib.Nat.{le_refl}
use native.Mathlib.Omega.{arith}
use lib.ListN.{length, get_or}
use borrow.Author.Tests.{not-true, ltb-true}
use Rattle.model.specs.Calls.{lane_rules, rules_to5, succession_rules}
use Rattle.model.specs.Lists.{ascends, every}
use Rattle.model.specs.Records.{Lane, Target}
use Rattle.model.specs.Rows.{parts_fit, table}
use Rattle.model.specs.Rules.{connection_parts_fit, first_broken, lanes_sized, map_sized, pair_parts_fit}
use Rattle.model.specs.Rules.{same, section_parts_fit, sections_ascend}
use Rattle.model.specs.Succession.{exits}
use Rattle.model.specs.Tables.{Tables, flag, lane_in, lanes_in, lanes_of, map_of, roads_in}
use Rattle.laws.proofs.Bound.{sum_of}
use Rattle.laws.proofs.Offsets.{exits_limit}
use Rattle.laws.proofs.RulesReversed.{Passes, all_pass}
use Rattle.words.specs.Rows.{all, any, from, tab, total}
use Rattle.words.specs.Keys.{bears, id_before, key_before, name_before}
use Rattle.words.proofs.Chains.{last_le}
use Rattle.words.proofs.Scans.{all_at, left_on, right_on}
use Rattle.rules.specs.ByRow.{Few, Linked, listed_at, numbers_at, road_row_of}
use Rattle.rules.proofs.Counts.{few, junctions_few, lanes_few}
use Rattle.rules.proofs.Fits.{part_in}
use Rattle.rules.proofs.Forms.{identities_once_lem, lanes_listed_lem, lanes_tab, roads_once_lem, sections_ascend_lem}
use Rattle.rules.proofs.Places.{keys_once_lem}
use Rattle.succession.specs.Runs.{Rising}
use Rattle.succession.specs.ByRow.{Rows, Sound, exits_by_row, lane_at, rows_of, successors_by_row}
use Rattle.succession.specs.Named.{Ended, Named, Sided, junction_row_of, row_of_target, target_row_of}
use Rattle.succession.specs.Finished.{exit_count}
use Rattle.succession.specs.Answers.{own_list}
use Rattle.succession.proofs.ByName.{owner_known}
use Rattle.succession.proofs.Places.{by_le}
use Rattle.std.proofs.lemmas.List.{get_or_past}
use Rattle.succession.proofs.Bridge.{Ruled, exits_by_row_lem, successors_by_row_lem}
use Rattle.succession.proofs.Spreads.{total_plus}
use Rattle.words.proofs.Laws.{total_same}

-- ---- numbers that ascend rise
each_below : (x : ℕ) (xs : List ℕ) → every (λ y. lib.Dec.ltb x y) xs ≡ true → (j : ℕ) → j < length xs
    → x < get_or xs j 0
each_below x [] e j h = absurd (native.Mathlib.Nat.not-suc-le-zero h)
each_below x (y ∷ xs) e zero h = ltb-true x y (left_on (lib.Dec.ltb x y) (every (λ y. lib.Dec.ltb x y) xs) e)
each_below x (y ∷ xs) e (suc j) h =
    each_below x xs (right_on (lib.Dec.ltb x y) (every (λ y. lib.Dec.ltb x y) xs) e) j
    (native.Mathlib.Nat.le_of_suc-le-suc h)

ascend_rise : (xs : List ℕ) → ascends xs ≡ true → Rising xs
ascend_rise [] e i j a b = absurd (native.Mathlib.Nat.not-suc-le-zero b)
ascend_rise (x ∷ xs) e zero zero a b = le_refl x
ascend_rise (x ∷ xs) e zero (suc j) a b =
    let w = each_below x xs (left_on (every (λ y. lib.Dec.ltb x y) xs) (ascends xs) e) j
    (native.Mathlib.Nat.le_of_suc-le-suc b) in
    omega arith
ascend_rise (x ∷ xs) e (suc i) zero a b = absurd (native.Mathlib.Nat.not-suc-le-zero a)
ascend_rise (x ∷ xs) e (suc i) (suc j) a b =
    ascend_rise xs (right_on (every (λ y. lib.Dec.ltb x y) xs) (ascends xs) e) i j
    (native.Mathlib.Nat.le_of_suc-le-suc a) (native.Mathlib.Nat.le_of_suc-le-suc b)

-- ---- what a target names lies in its table
module _ (text roads junctions : List ℕ) (a : ℕ) where
  pub target_road_low : flag (get_or roads (a + 1) 0) ≡ false
      → target_row_of text roads junctions a ≤ length roads / 20
  unfolding target_row_of
  target_road_low e = go (flag (get_or roads a 0)) _ e
    where
      go : (x : Bool) (t : Target) → t.is_junction ≡ false
          → row_of_target text roads junctions (cond x (some t) none) ≤ length roads / 20
      go true t is = rw is (unfold road_row_of in last_le (length roads / 20) (bears text 20 0 roads t.name))
      go false t is = omega arith

  pub target_junction_low : flag (get_or roads (a + 1) 0) ≡ true
      → target_row_of text roads junctions a ≤ length junctions / 5
  unfolding target_row_of
  target_junction_low e = go (flag (get_or roads a 0)) _ e
    where
      go : (x : Bool) (t : Target) → t.is_junction ≡ true
          → row_of_target text roads junctions (cond x (some t) none) ≤ length junctions / 5
      go true t is = rw is (unfold junction_row_of in last_le (length junctions / 5) (bears text 5 0 junctions t.name))
      go false t is = omega arith

sum_snoc : {A : Type 0} (f : A → ℕ) (xs : List A) (y : A) → sum_of f (xs ++ (y ∷ [])) ≡ sum_of f xs + f y
unfolding sum_of
sum_snoc f [] y = omega arith
sum_snoc f (x ∷ xs) y = let e : sum_of f (xs ++ (y ∷ [])) ≡ sum_of f xs + f y = sum_snoc f xs y in omega arith

sum_tab : {A : Type 0} (f : A → ℕ) (n : ℕ) (g : ℕ → A) → sum_of f (tab n g) ≡ total n (λ i. f (g i))
unfolding tab total sum_of
sum_tab f zero g = refl
sum_tab f (suc n) g = sum_snoc f (tab n g) (g n) ∙ ap (λ (k : ℕ). k + f (g n)) (sum_tab f n g)

-- ---- tables that break no rule of the call
module _ (t : Tables) (admitted : first_broken (succession_rules t) ≡ none) where
  abbrev text : List ℕ
  text = t.text

  abbrev roads : List ℕ
  roads = t.roads

  abbrev sections : List ℕ
  sections = t.sections

  abbrev junctions : List ℕ
  junctions = t.junctions

  abbrev connections : List ℕ
  connections = t.connections

  abbrev pairs : List ℕ
  pairs = t.pairs

  abbrev lanes : List ℕ
  lanes = t.lanes

  rules : Passes (succession_rules t)
  rules = all_pass (succession_rules t) admitted

  sizes : (map_sized 16384 t ≡ true) × (lanes_sized t ≡ true)
  unfolding succession_rules rules_to5 lane_rules
  sizes = (
    left_on (map_sized 16384 t) (lanes_sized t) rules.0,
    right_on (map_sized 16384 t) (lanes_sized t) rules.0,
  )

  pub fewer : Few roads sections connections pairs
  fewer = few 16384 t (le_refl 16384) sizes.0

  pub fewer_junctions : length junctions / 5 ≤ 16384
  fewer_junctions = junctions_few 16384 t sizes.0

  pub fewer_lanes : length lanes / 10 ≤ 16384
  fewer_lanes = lanes_few t sizes.1

  pub names_single : any (length roads / 20) (name_before text 20 0 roads) ≡ false
  unfolding succession_rules rules_to5 lane_rules
  names_single =
      not-true (any (length roads / 20) (name_before text 20 0 roads))
      (sym (roads_once_lem text roads sections) ∙ rules.1.1.0)

  sections_good : (parts_fit 18 19 0 (length sections) (table 20 roads) ≡ true)
      × (all (length roads / 20) (λ i. ascends (numbers_at roads sections i)) ≡ true)
  unfolding succession_rules rules_to5 lane_rules section_parts_fit
  sections_good = (
    left_on (parts_fit 18 19 0 (length sections) (table 20 roads)) (sections_ascend (roads_in sections roads))
        rules.1.1.1.0,
    sym (sections_ascend_lem roads sections)
        ∙ right_on (parts_fit 18 19 0 (length sections) (table 20 roads))
        (sections_ascend (roads_in sections roads)) rules.1.1.1.0,
  )

  pub parts_good : (parts_fit 3 4 0 (length connections / 7) (table 5 junctions) ≡ true)
      × (parts_fit 5 6 0 (length pairs / 2) (table 7 connections) ≡ true)
  unfolding succession_rules rules_to5 lane_rules connection_parts_fit pair_parts_fit
  parts_good = (
    left_on (parts_fit 3 4 0 (length connections / 7) (table 5 junctions))
        (parts_fit 5 6 0 (length pairs / 2) (table 7 connections)) rules.1.1.1.1.0,
    right_on (parts_fit 3 4 0 (length connections / 7) (table 5 junctions))
        (parts_fit 5 6 0 (length pairs / 2) (table 7 connections)) rules.1.1.1.1.0,
  )

  pub ids_single : any (length lanes / 10) (id_before lanes) ≡ false
  unfolding succession_rules rules_to5 lane_rules
  ids_single =
      not-true (any (length lanes / 10) (id_before lanes))
      (sym (identities_once_lem lanes) ∙ rules.1.1.1.1.1.0)

  lanes_known : all (length lanes / 10) (listed_at text roads sections lanes) ≡ true
  unfolding succession_rules rules_to5 lane_rules
  lanes_known = sym (lanes_listed_lem text roads sections lanes) ∙ rules.1.1.1.1.1.1.0

  pub ends_sum : (e : Bool)
      → total (length lanes / 10) (λ i. length (exits (same t) (map_of t) (lane_at lanes i) e)) ≤ 32768
  ends_sum e =
      let a = exits_limit t admitted e in
      let b : sum_of (λ (l : Lane). length (exits (same t) (map_of t) l e)) (lanes_of t)
      ≡ total (length lanes / 10) (λ i. length (exits (same t) (map_of t) (lane_at lanes i) e)) = over in
      omega arith
    where
      over : sum_of (λ (l : Lane). length (exits (same t) (map_of t) l e)) (lanes_of t)
          ≡ total (length lanes / 10) (λ i. length (exits (same t) (map_of t) (lane_at lanes i) e))
      over =
          unfold lanes_in lane_at in (ap (sum_of (λ (l : Lane). length (exits (same t) (map_of t) l e)))
          (lanes_tab lanes)
          ∙ sum_tab (λ (l : Lane). length (exits (same t) (map_of t) l e)) (length lanes / 10)
          (λ i. lane_in (from 10 lanes i)))

  -- with what the checks left linked
  module _ {heads next owner kheads knext : List ℕ}
      (linked : Linked text roads lanes heads next owner kheads knext) where
    keys_single : any (length lanes / 10) (key_before lanes owner) ≡ false
    unfolding succession_rules rules_to5 lane_rules
    keys_single =
        not-true (any (length lanes / 10) (key_before lanes owner))
        (sym (keys_once_lem text roads sections lanes owner lanes_known linked.owned) ∙ rules.1.1.1.1.1.1.1.0)

    -- each lane's road is a row plus 1, so each lane has a word
    pub owner_long : length lanes / 10 ≤ length owner
    owner_long = by_le (length lanes / 10) (length owner) (λ h. h)
        (λ h. absurd
        (owner_known text roads sections lanes owner linked.owned lanes_known (length owner) h
        (get_or_past owner (length owner) 0 (le_refl (length owner)))))

    pub ruled : Ruled text roads sections junctions connections pairs lanes owner
    ruled = record {
      once = names_single;
      listed = lanes_known;
      keys = keys_single;
      connection_parts = part_in 5 3 4 (length connections / 7) junctions (omega arith) (omega arith) parts_good.0;
      pair_parts = part_in 7 5 6 (length pairs / 2) connections (omega arith) (omega arith) parts_good.1;
    }

    -- and with the rows that connections and targets name
    module _ {sides ends : List ℕ} (sided : Sided text roads connections (length connections / 7) sides)
        (ended : Ended text roads junctions (length roads / 20) ends)
        (sides-wide : length sides ≡ 32768) (ends-wide : length ends ≡ 32768) where
      abbrev rows : Rows
      rows = rows_of roads sections junctions connections pairs lanes owner sides ends

      pub named : Named text roads junctions connections lanes owner sides ends
      named = record { owned = linked.owned; sided = sided; ended = ended }

      road_low : (n : Rattle.model.specs.Records.Span) → road_row_of text roads n ≤ length roads / 20
      unfolding road_row_of
      road_low n = last_le (length roads / 20) (bears text 20 0 roads n)

      pub sound : Sound rows
      sound = record {
        few_roads = fewer.few_roads;
        owner_low = λ l ll. positive (get_or owner l 0)
            (owner_known text roads sections lanes owner linked.owned lanes_known l ll);
        owner_high = λ l ll. subst (λ (k : ℕ). k ≤ length roads / 20) (sym (linked.owned.at l ll)) (road_low _);
        sides_long = let a = fewer.few_connections in omega arith;
        sides_high = λ c lc. subst (λ (k : ℕ). k ≤ length roads / 20) (sym (sided.connecting c lc)) (road_low _);
        ends_long = let a = fewer.few_roads in omega arith;
        start_roads = λ r lr e. subst (λ (j : ℕ). j ≤ length roads / 20) (sym (ended.start r lr))
            (target_road_low text roads junctions (r * 20 + 4) e);
        start_junctions = λ r lr e. subst (λ (j : ℕ). j ≤ length junctions / 5) (sym (ended.start r lr))
            (target_junction_low text roads junctions (r * 20 + 4) e);
        end_roads = λ r lr e. subst (λ (j : ℕ). j ≤ length roads / 20) (sym (ended.end r lr))
            (target_road_low text roads junctions (r * 20 + 11) e);
        end_junctions = λ r lr e. subst (λ (j : ℕ). j ≤ length junctions / 5) (sym (ended.end r lr))
            (target_junction_low text roads junctions (r * 20 + 11) e);
        section_parts = sections_good.0;
        rising = λ r lr. ascend_rise (numbers_at roads sections r)
            (all_at (length roads / 20) r (λ i. ascends (numbers_at roads sections i)) sections_good.1 lr);
        connection_parts = ruled.connection_parts;
        pair_parts = ruled.pair_parts;
      }
        where
          positive : (k : ℕ) → (k ≡ 0 → ⊥) → 0 < k
          positive k n = omega arith

      pub own_is : (l : ℕ) → l < length lanes / 10
          → successors_by_row rows l
          ≡ own_list t l
      unfolding own_list map_of
      own_is l ll =
          successors_by_row_lem text roads sections junctions connections pairs lanes owner sides ends named ruled l
          ll

      ends_few : (e : Bool)
          → total (length lanes / 10)
          (λ l. length (exits_by_row rows l e)) ≤ 32768
      ends_few e =
          let a = ends_sum e in
          let d : total (length lanes / 10)
          (λ l. length (exits_by_row rows l e))
          ≡ total (length lanes / 10) (λ i. length (exits (same t) (map_of t) (lane_at lanes i) e)) =
          by_row in
          omega arith
        where
          by_row : total (length lanes / 10)
              (λ l. length (exits_by_row rows l e))
              ≡ total (length lanes / 10) (λ i. length (exits (same t) (map_of t) (lane_at lanes i) e))
          by_row =
              unfold map_of in total_same (length lanes / 10)
              (λ l. length (exits_by_row rows l e))
              (λ i. length (exits (same t) (map_of t) (lane_at lanes i) e))
              (λ l ll.
              ap length (exits_by_row_lem text roads sections junctions connections pairs lanes owner sides ends
              named ruled l ll e))

      pub exits_fit : total (length lanes / 10)
          (exit_count rows) ≤ 65536
      exits_fit = let a = ends_few true in let b = ends_few false in
          let d = total_plus (length lanes / 10)
          (λ l. length (exits_by_row rows l true))
          (λ l. length (exits_by_row rows l false))
          (exit_count rows) (λ l. refl) in
          omega arith
