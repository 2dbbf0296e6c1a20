-- 14 by row numbers is the rule.
use Prim.Native.Nat.{ℕ, zero, suc, ◌+◌, ◌*◌, ◌/◌, ◌<◌}
use mathlib.Core.Path.{◌≡◌, refl, sym, ap, ap₂, ◌∙◌, subst}
use mathlib.Core.List.{List, [], ◌∷◌, map}
use mathlib.Core.Option.{none, some}
use mathlib.Core.Bool.{Bool, true, false, not, ◌&&◌, ◌||◌, cond, true≢false}
use native.Mathlib.Nat.{add_assoc, not-suc-le-zero, le_of_suc-le-suc}
use native.Mathlib.Omega.{arith}
use lib.ListN.{length, get_or, drop}
use lib.Seq.{get_or-drop}
use lib.Dec.{eqb}
use borrow.Author.Tests.{not-true}
use Rattle.model.specs.Lists.{distinct, every, some?}
use Rattle.model.specs.Records.{Connection, Junction, JunctionKind, Road, Span, common, direct, virtual}
use Rattle.model.specs.Repair.{names_junction}
use Rattle.model.specs.Reversal.{marked}
use Rattle.model.specs.Rows.{table, word}
use Rattle.model.specs.Rules.{is_direct, names_direct_twice, names_once, names_twice, one_ended_in}
use Rattle.model.specs.Tables.{connections_in, junction_in, junctions_in, kind_of, road_in, roads_in, target_of}
use Rattle.model.specs.Text.{bytes_of, equal_bytes, same_in}
use Rattle.laws.proofs.RowTests.{some_found}
use Rattle.words.specs.Keys.{is_kind, is_kind_of}
use Rattle.words.specs.Rows.{all, any, from, name_at, name_from, span}
use Rattle.words.proofs.KeyLaws.{equal_off, equal_on, equal_refl, equal_sound}
use Rattle.words.proofs.Laws.{any_same, tab_at, tab_length}
use Rattle.words.proofs.Scans.{Local, all_same, every_tab, left_on, map_rows, right_on, some_tab}
use Rattle.rules.specs.ByRow.{to_junction, turns_twice, twice_from}
use Rattle.rules.proofs.Forms.{name_at_lem, roads_tab}
use Rattle.rules.proofs.Locals.{short}

-- ---- a factor taken out
any_factor : (c : Bool) (n : ℕ) (p : ℕ → Bool) → any n (λ q. c && p q) ≡ (c && any n p)
unfolding any
any_factor true zero p = refl
any_factor false zero p = refl
any_factor true (suc n) p = ap (λ b. b || p n) (any_factor true n p)
any_factor false (suc n) p = ap (λ b. b || false) (any_factor false n p)

-- ---- words
kind_is : (k : JunctionKind) → is_direct k ≡ is_kind direct k
kind_is common = refl
kind_is direct = refl
kind_is virtual = refl

junction_named : (same : Span → Span → Bool) (j : Span) (p k s n c g a : ℕ)
    → names_junction same j (target_of p k s n c g a) ≡ ((eqb p 1 && eqb k 1) && same (span s n) j)
junction_named same j p k s n c g a = go (eqb p 1)
  where
    go : (b : Bool)
        → names_junction same j (cond b (some
        (record { is_junction = eqb k 1; name = span s n; contact = eqb c 1; given = eqb g 1; along = eqb a 1 }))
        none) ≡ ((b && eqb k 1) && same (span s n) j)
    go true = refl
    go false = refl

equal_sym : (a b : List ℕ) → equal_bytes a b ≡ equal_bytes b a
equal_sym a b = go (equal_bytes a b) refl
  where
    go : (x : Bool) → equal_bytes a b ≡ x → x ≡ equal_bytes b a
    go true e = sym (equal_on b a (sym (equal_sound a b e)))
    go false e = sym (equal_off b a (λ z. true≢false (sym (equal_on a b (sym z)) ∙ e)))

-- one junction: both ends name it, or they name each other's and one of them it
pairwise : (text : List ℕ) (P S N : Span) (D a b : Bool)
    → (D && ((a && same_in text P N) && (b && same_in text S N)))
    ≡ (((a && b) && same_in text S P) && (D && same_in text N P))
unfolding same_in
pairwise text P S N D a b = go (equal_bytes (bytes_of text P) (bytes_of text N)) refl
  where
    flat : (D a b e : Bool) → (D && ((a && true) && (b && e))) ≡ (((a && b) && e) && (D && true))
    flat true true true true = refl
    flat true true true false = refl
    flat true true false e = refl
    flat true false b e = refl
    flat false true true true = refl
    flat false true true false = refl
    flat false true false e = refl
    flat false false b e = refl

    none_of : (D a b y e : Bool) → (D && ((a && false) && (b && y))) ≡ (((a && b) && e) && (D && false))
    none_of true true true y true = refl
    none_of true true true y false = refl
    none_of true true false y e = refl
    none_of true false b y e = refl
    none_of false true true y true = refl
    none_of false true true y false = refl
    none_of false true false y e = refl
    none_of false false b y e = refl

    go : (x : Bool) → equal_bytes (bytes_of text P) (bytes_of text N) ≡ x
        → (D && ((a && equal_bytes (bytes_of text P) (bytes_of text N))
        && (b && equal_bytes (bytes_of text S) (bytes_of text N))))
        ≡ (((a && b) && equal_bytes (bytes_of text S) (bytes_of text P))
        && (D && equal_bytes (bytes_of text N) (bytes_of text P)))
    go true e =
        ap₂ (λ u v. D && ((a && u) && (b && v))) e
        (ap (equal_bytes (bytes_of text S)) (sym (equal_sound (bytes_of text P) (bytes_of text N) e)))
        ∙ flat D a b (equal_bytes (bytes_of text S) (bytes_of text P))
        ∙ ap (λ u. ((a && b) && equal_bytes (bytes_of text S) (bytes_of text P)) && (D && u))
        (sym (sym (equal_sym (bytes_of text P) (bytes_of text N)) ∙ e))
    go false e =
        ap (λ u. D && ((a && u) && (b && equal_bytes (bytes_of text S) (bytes_of text N)))) e
        ∙ none_of D a b (equal_bytes (bytes_of text S) (bytes_of text N))
        (equal_bytes (bytes_of text S) (bytes_of text P))
        ∙ ap (λ u. ((a && b) && equal_bytes (bytes_of text S) (bytes_of text P)) && (D && u))
        (sym (sym (equal_sym (bytes_of text P) (bytes_of text N)) ∙ e))

-- ---- the mark of road i is its own
marked_at : (same : Span → Span → Bool) → ((a : Span) → same a a ≡ true)
    → (rs : List Road) (ks : List ℕ) (i : ℕ) (d : Road) → length rs ≡ length ks → i < length rs
    → distinct (λ a b. same a.name b.name) rs ≡ true
    → marked same rs ks (get_or rs i d).name ≡ eqb (get_or ks i 0) 1
marked_at same own [] ks i d len h e = absurd (not-suc-le-zero h)
marked_at same own (r ∷ rs) [] i d len h e = absurd (omega arith)
marked_at same own (r ∷ rs) (k ∷ ks) zero d len h e =
    ap (λ b. cond b (eqb k 1) (marked same rs ks r.name)) (own r.name)
marked_at same own (r ∷ rs) (k ∷ ks) (suc i) d len h e =
    ap (λ b. cond b (eqb k 1) (marked same rs ks (get_or rs i d).name)) off
    ∙ marked_at same own rs ks i d (omega arith) (le_of_suc-le-suc h)
    (right_on (not (some? (λ b. same r.name b.name) rs)) (distinct (λ a b. same a.name b.name) rs) e)
  where
    none_like : some? (λ b. same r.name b.name) rs ≡ false
    none_like =
        not-true _ (left_on (not (some? (λ b. same r.name b.name) rs))
        (distinct (λ a b. same a.name b.name) rs) e)

    off : same r.name (get_or rs i d).name ≡ false
    off = go (same r.name (get_or rs i d).name) refl
      where
        go : (x : Bool) → same r.name (get_or rs i d).name ≡ x → x ≡ false
        go false q = refl
        go true q =
            absurd (true≢false
            (sym (some_found (λ b. same r.name b.name) rs i d (le_of_suc-le-suc h) q) ∙ none_like))

pub junction_in_local : (C : List Connection) → Local 5 (junction_in C)
unfolding junction_in
junction_in_local C l = simp (short 5 l)

module _ (text roads junctions : List ℕ) (C : List Connection) (sections : List ℕ) where
  first_names : (at : ℕ) (j : Span)
      → names_junction (same_in text) j (road_in sections (drop at roads)).predecessor
      ≡ (to_junction roads (at + 4) && same_in text (name_from roads (at + 6)) j)
  unfolding road_in
  first_names at j =
      junction_named (same_in text) j (get_or (drop at roads) 4 0) (get_or (drop at roads) 5 0)
      (get_or (drop at roads) 6 0) (get_or (drop at roads) 7 0) (get_or (drop at roads) 8 0)
      (get_or (drop at roads) 9 0) (get_or (drop at roads) 10 0)
      ∙ simp (get_or-drop at roads, add_assoc)

  last_names : (at : ℕ) (j : Span)
      → names_junction (same_in text) j (road_in sections (drop at roads)).successor
      ≡ (to_junction roads (at + 11) && same_in text (name_from roads (at + 13)) j)
  unfolding road_in
  last_names at j =
      junction_named (same_in text) j (get_or (drop at roads) 11 0) (get_or (drop at roads) 12 0)
      (get_or (drop at roads) 13 0) (get_or (drop at roads) 14 0) (get_or (drop at roads) 15 0)
      (get_or (drop at roads) 16 0) (get_or (drop at roads) 17 0)
      ∙ simp (get_or-drop at roads, add_assoc)

  direct_is : (q : ℕ)
      → is_direct (junction_in C (from 5 junctions q)).kind
      ≡ is_kind direct (kind_of (get_or junctions (q * 5 + 2) 0))
  unfolding junction_in
  direct_is q =
      kind_is (kind_of (word (from 5 junctions q) 2))
      ∙ ap (λ (k : ℕ). is_kind direct (kind_of k)) (get_or-drop (q * 5) junctions 2 0)

  called : (q : ℕ) → (junction_in C (from 5 junctions q)).name ≡ name_at 5 0 junctions q
  unfolding junction_in
  called q = name_at_lem 5 0 junctions q

  -- both ends of the road whose row begins at word `at` name one junction
  abbrev both_ends : ℕ → Bool
  both_ends at = (to_junction roads (at + 4) && to_junction roads (at + 11))
      && same_in text (name_from roads (at + 13)) (name_from roads (at + 6))

  one_junction : (at q : ℕ)
      → (is_direct (junction_in C (from 5 junctions q)).kind
      && names_twice (same_in text) (junction_in C (from 5 junctions q)).name (road_in sections (drop at roads)))
      ≡ (both_ends at && is_kind_of direct text junctions (name_from roads (at + 6)) q)
  unfolding names_twice is_kind_of
  one_junction at q =
      ap₂ ◌&&◌ (direct_is q) (ap₂ ◌&&◌ (first_names at (junction_in C (from 5 junctions q)).name)
      (last_names at (junction_in C (from 5 junctions q)).name))
      ∙ ap (λ (n : Span). is_kind direct (kind_of (get_or junctions (q * 5 + 2) 0))
      && ((to_junction roads (at + 4) && same_in text (name_from roads (at + 6)) n)
      && (to_junction roads (at + 11) && same_in text (name_from roads (at + 13)) n))) (called q)
      ∙ pairwise text (name_from roads (at + 6)) (name_from roads (at + 13)) (name_at 5 0 junctions q)
      (is_kind direct (kind_of (get_or junctions (q * 5 + 2) 0))) (to_junction roads (at + 4))
      (to_junction roads (at + 11))

  some_direct : (at : ℕ)
      → some? (λ j. is_direct j.kind && names_twice (same_in text) j.name (road_in sections (drop at roads)))
      (map (junction_in C) (table 5 junctions)) ≡ twice_from text roads junctions at
  unfolding twice_from
  some_direct at =
      let test : Junction → Bool =
      λ j. is_direct j.kind && names_twice (same_in text) j.name (road_in sections (drop at roads)) in
      let n = length junctions / 5 in
      let borne = is_kind_of direct text junctions (name_from roads (at + 6)) in
      ap (some? test) (map_rows 5 junctions (junction_in C) (junction_in_local C))
      ∙ some_tab test n (λ q. junction_in C (from 5 junctions q))
      ∙ any_same n (λ q. test (junction_in C (from 5 junctions q))) (λ q. both_ends at && borne q)
      (λ q lt. one_junction at q)
      ∙ any_factor (both_ends at) n borne

own_name : (text : List ℕ) (a : Span) → same_in text a a ≡ true
unfolding same_in
own_name text a = equal_refl (bytes_of text a)

pub one_ended_lem : (text roads sections junctions connections pairs marks : List ℕ)
    → names_once (same_in text) (roads_in sections roads) ≡ true → length roads / 20 ≡ length marks
    → one_ended_in (same_in text) (marked (same_in text) (roads_in sections roads) marks)
    (junctions_in pairs connections junctions) (roads_in sections roads)
    ≡ all (length roads / 20) (turns_twice text roads junctions marks)
unfolding one_ended_in names_direct_twice junctions_in turns_twice
one_ended_lem text roads sections junctions connections pairs marks once len =
    let same = same_in text in
    let rs = roads_in sections roads in
    let js = map (junction_in (connections_in pairs connections)) (table 5 junctions) in
    let road : ℕ → Road = λ i. road_in sections (from 20 roads i) in
    let n = length roads / 20 in
    let test : Road → Bool =
    λ r. not (marked same rs marks r.name
    && some? (λ j. is_direct j.kind && names_twice same j.name r) js) in
    let borne = some_direct text roads junctions (connections_in pairs connections) sections in
    ap (every test) (roads_tab roads sections)
    ∙ every_tab test n road
    ∙ all_same n (λ i. test (road i)) (λ i. not (eqb (get_or marks i 0) 1 && twice_from text roads junctions (i * 20)))
    (λ i lt. ap₂ (λ a b. not (a && b)) (mark i lt) (borne (i * 20)))
  where
    mark : (i : ℕ) → i < length roads / 20
        → marked (same_in text) (roads_in sections roads) marks (road_in sections (from 20 roads i)).name
        ≡ eqb (get_or marks i 0) 1
    mark i lt =
        let d = road_in [] [] in
        let at : get_or (roads_in sections roads) i d ≡ road_in sections (from 20 roads i) =
        ap (λ (l : List Road). get_or l i d) (roads_tab roads sections)
        ∙ tab_at (length roads / 20) (λ i. road_in sections (from 20 roads i)) i d lt in
        let count : length (roads_in sections roads) ≡ length roads / 20 =
        ap length (roads_tab roads sections) ∙ tab_length (length roads / 20) _ in
        ap (λ (r : Road). marked (same_in text) (roads_in sections roads) marks r.name) (sym at)
        ∙ marked_at (same_in text) (own_name text) (roads_in sections roads) marks i d (count ∙ len)
        (subst (λ (k : ℕ). i < k) (sym count) lt) (unfold names_once in once)
