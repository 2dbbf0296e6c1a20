-- Succession never writes more than 131,072 identities: each pair serves one lane at each end, and a link back
-- has its link.
use mathlib.Core.Path.{◌≡◌, refl, sym, ◌∙◌, ap}
use mathlib.Core.Bool.{Bool, true, false, not, ◌&&◌, ◌||◌, cond, false≢true}
use mathlib.Core.Option.{Option, none, some}
use mathlib.Core.List.{List, [], ◌∷◌, ◌++◌, map}
use Prim.Native.Nat.{ℕ, ◌+◌, ◌*◌, ◌≤◌, ◌<◌}
use native.Mathlib.Omega.{arith}
use lib.Dec.{eqb, ltb}
use lib.ListN.{length, length-append, length-map}
use borrow.Author.Tests.{eqb-true, eq-eqb, ltb-false}
use Rattle.model.specs.Lists.{bind_o, distinct, final, first, gather, keep, last_or, list_o, member, or_else}
use Rattle.model.specs.Records.{Connection, Junction, Lane, Map, Pair, Span, Target, link_at, target_at}
use Rattle.model.specs.Repair.{road_of}
use Rattle.model.specs.Rules.{same_key}
use Rattle.model.specs.Succession.{Entry, back_links, cross, end_section, exits, exits_by, finds_back, is_both}
use Rattle.model.specs.Succession.{junction_of, lookup, lookup_at_end, next_section, sections_of, stands_at}
use Rattle.model.specs.Succession.{successor_lists, successors, successors_of, through_junction, through_pairs}
use Rattle.model.specs.Tables.{bit}
use Rattle.laws.proofs.Basics.{gather_map, no_some}
use Rattle.laws.proofs.Bound.{found_few, gather_sum, length_sort, lookup_one, successors_of_exits}
use Rattle.laws.proofs.Bound.{sum_ext, sum_le, sum_plus, sum_swap, sum_of}
use Rattle.laws.proofs.ForEach.{each_map, each_member}
use Rattle.laws.proofs.ListTests.{and_both}
use Rattle.laws.proofs.Mirror.{below_last}
use Rattle.laws.proofs.Names.{sections_of_ascends, sections_of_same}
use Rattle.laws.proofs.Valid.{Alike, Ascends, Each, Placed, Valid}

-- ---- a lane with no further section stands in the section at that end
first_none : (p : ℕ → Bool) (xs : List ℕ) → first p xs ≡ none → Each (λ x. p x ≡ false) xs
first_none p [] h = tt
first_none p (x ∷ xs) h = go (p x) refl h (first_none p xs)
  where
    go : (b : Bool) → p x ≡ b → cond b (some x) (first p xs) ≡ none
        → (first p xs ≡ none → Each (λ x. p x ≡ false) xs) → (p x ≡ false) × Each (λ x. p x ≡ false) xs
    go true q h ih = absurd (no_some x (sym h))
    go false q h ih = (q, ih h)

final_none : (p : ℕ → Bool) (xs : List ℕ) → final p xs ≡ none → Each (λ x. p x ≡ false) xs
final_none p [] h = tt
final_none p (x ∷ xs) h = go (final p xs) (final_none p xs) (p x) refl h
  where
    go : (o : Option ℕ) → (o ≡ none → Each (λ x. p x ≡ false) xs) → (b : Bool) → p x ≡ b
        → or_else o (cond b (some x) none) ≡ none → (p x ≡ false) × Each (λ x. p x ≡ false) xs
    go (some y) ih b q h = absurd (no_some y (sym h))
    go none ih true q h = absurd (no_some x (sym h))
    go none ih false q h = (q, ih refl)

last_in : (P : ℕ → Type 0) (x : ℕ) (xs : List ℕ) → Each P (x ∷ xs) → P (last_or x xs)
last_in P x [] h = h.0
last_in P x (y ∷ ys) h = last_in P y ys h.1

end_of : (ss : List ℕ) (s : ℕ) (e : Bool) → Ascends ss → member s ss ≡ true → next_section ss s e ≡ none
    → s ≡ end_section ss e
unfolding next_section end_section
end_of [] s e a k h = absurd (false≢true k)
end_of (x ∷ xs) s true a k h =
    let low : s ≤ last_or x xs = each_member (λ i. i ≤ last_or x xs) s (x ∷ xs) (below_last x xs a) k in
    let top : last_or x xs ≤ s =
    ltb-false s (last_or x xs)
    (last_in (λ i. ltb s i ≡ false) x xs (first_none (λ i. ltb s i) (x ∷ xs) h)) in
    omega arith
end_of (x ∷ xs) s false a k h =
    let none_below : Each (λ i. ltb i s ≡ false) (x ∷ xs) = final_none (λ i. ltb i s) (x ∷ xs) h in
    let top : s ≤ x = ltb-false x s none_below.0 in
    let low : x ≤ s =
    each_member (λ i. x ≤ i) s (x ∷ xs) (omega arith, each_map (λ i (q : x < i). omega arith) xs a.0)
    k in
    omega arith

keep_sum : {A : Type 0} (p : A → Bool) (xs : List A) → sum_of (λ x. bit (p x)) xs ≡ length (keep p xs)
unfolding sum_of
keep_sum p [] = refl
keep_sum p (x ∷ xs) = go (p x) (keep_sum p xs)
  where
    go : (b : Bool) → sum_of (λ x. bit (p x)) xs ≡ length (keep p xs)
        → cond b 1 0 + sum_of (λ x. bit (p x)) xs ≡ length (cond b (x ∷ keep p xs) (keep p xs))
    go true ih = omega (arith, ih)
    go false ih = omega (arith, ih)

there : (n : ℕ) (xs : List ℕ) → bit (member n xs) ≤ length (keep (eqb n) xs)
there n [] = omega arith
there n (x ∷ xs) = go (eqb n x) (there n xs)
  where
    go : (b : Bool) → cond (member n xs) 1 0 ≤ length (keep (eqb n) xs)
        → cond (b || member n xs) 1 0 ≤ length (cond b (x ∷ keep (eqb n) xs) (keep (eqb n) xs))
    go true ih = omega arith
    go false ih = ih

-- lists of those that are kept, each below a number
kept_sum : {A B : Type 0} (p : A → Bool) (f : A → List B) (F : A → ℕ) (xs : List A)
    → ((x : A) → p x ≡ true → length (f x) ≤ F x) → length (gather f (keep p xs)) ≤ sum_of F xs
unfolding sum_of
kept_sum p f F [] h = omega arith
kept_sum p f F (x ∷ xs) h = go (p x) refl (kept_sum p f F xs h)
  where
    go : (b : Bool) → p x ≡ b → length (gather f (keep p xs)) ≤ sum_of F xs
        → length (gather f (cond b (x ∷ keep p xs) (keep p xs))) ≤ F x + sum_of F xs
    go true q ih = omega (arith, length-append (f x) (gather f (keep p xs)), h x q)
    go false q ih = omega arith

final_sum : {B : Type 0} (p : Junction → Bool) (g : Junction → List B) (F : Junction → ℕ) (js : List Junction)
    → ((j : Junction) → length (g j) ≤ F j) → length (list_o (final p js) g) ≤ sum_of F js
unfolding sum_of
final_sum p g F [] h = omega arith
final_sum p g F (j ∷ js) h = go (final p js) (final_sum p g F js h) (p j)
  where
    go : (o : Option Junction) → length (list_o o g) ≤ sum_of F js → (b : Bool)
        → length (list_o (or_else o (cond b (some j) none)) g) ≤ F j + sum_of F js
    go (some k) ih b = omega arith
    go none ih true = omega (arith, h j)
    go none ih false = omega arith

sum_one : {A : Type 0} (xs : List A) → sum_of (λ x. 1) xs ≡ length xs
unfolding sum_of
sum_one [] = refl
sum_one (x ∷ xs) = omega (arith, sum_one xs)

-- for the lanes of a list alone
sum_le_each : {A : Type 0} (P : A → Type 0) (f g : A → ℕ) (xs : List A) → Each P xs
    → ((x : A) → P x → f x ≤ g x) → sum_of f xs ≤ sum_of g xs
unfolding sum_of
sum_le_each P f g [] w h = omega arith
sum_le_each P f g (x ∷ xs) w h = omega (arith, h x w.0, sum_le_each P f g xs w.1 h)

module _ (same : Span → Span → Bool) (A : Alike same) (m : Map) (v : Valid same m)
    (keys : distinct (same_key same) m.lanes ≡ true) where
  -- the lane that a pair serves at end e
  serves : Bool → Connection → Pair → Lane → ℕ
  serves e c p l =
      bit (stands_at same c.incoming (end_section (sections_of same m.roads c.incoming) e) p.from l)

  served : Bool → Lane → Junction → ℕ
  served e l j = sum_of (λ c. sum_of (λ p. serves e c p l) c.pairs) j.connections

  one_served : (e : Bool) (l : Lane) → Placed same m.roads l
      → next_section (sections_of same m.roads l.road) l.section e ≡ none → (c : Connection) (p : Pair)
      → same c.incoming l.road ≡ true → eqb p.from l.number ≡ true → serves e c p l ≡ 1
  unfolding serves stands_at
  one_served e l w h c p q r =
      ap (λ b. cond b 1 0) (and_both (same l.road c.incoming && eqb l.section
      (end_section (sections_of same m.roads c.incoming) e)) (eqb l.number p.from)
      (and_both (same l.road c.incoming)
      (eqb l.section (end_section (sections_of same m.roads c.incoming) e))
      (A.same_sym c.incoming l.road q)
      (eq-eqb l.section (end_section (sections_of same m.roads c.incoming) e)
      (end_of (sections_of same m.roads l.road) l.section e
      (sections_of_ascends same m.roads l.road v.ascending) w h
      ∙ ap (λ ss. end_section ss e) (sym (sections_of_same same A m.roads c.incoming l.road q)))))
      (eq-eqb l.number p.from (sym (eqb-true p.from l.number r))))

  junction_served : (e : Bool) (l : Lane) → Placed same m.roads l
      → next_section (sections_of same m.roads l.road) l.section e ≡ none → (j : Junction)
      → length (through_junction same m l.road l.number j) ≤ served e l j
  unfolding through_junction through_pairs lookup_at_end served
  junction_served e l w h j =
      kept_sum (λ c. same c.incoming l.road) (λ c. through_pairs same m c l.number)
      (λ c. sum_of (λ p. serves e c p l) c.pairs) j.connections one
    where
      one : (c : Connection) → same c.incoming l.road ≡ true
          → length (through_pairs same m c l.number) ≤ sum_of (λ p. serves e c p l) c.pairs
      one c q =
          kept_sum (λ p. eqb p.from l.number)
          (λ p. lookup_at_end same m c.connecting c.contact p.to) (λ p. serves e c p l) c.pairs
          (λ p r.
          let one_lane = lookup_one same A m keys c.connecting
          (end_section (sections_of same m.roads c.connecting) c.contact) c.contact p.to in
          omega (arith, one_served e l w h c p q r))

  list_o_one : (o : Option ℕ) (f : ℕ → List Entry) → ((k : ℕ) → length (f k) ≤ 1) → length (list_o o f) ≤ 1
  list_o_one none f h = omega arith
  list_o_one (some k) f h = h k

  exits_served : (e : Bool) (l : Lane) → Placed same m.roads l
      → length (exits same m l e) ≤ 1 + sum_of (served e l) m.junctions
  unfolding exits junction_of lookup_at_end
  exits_served e l w = go (next_section (sections_of same m.roads l.road) l.section e) refl
    where
      by : next_section (sections_of same m.roads l.road) l.section e ≡ none → (t : Target) (b : Bool)
          → length (cond b
          (list_o (junction_of same m.junctions t.name) (through_junction same m l.road l.number))
          (list_o (link_at e l) (lookup_at_end same m t.name t.contact))) ≤ 1 + sum_of (served e l)
          m.junctions
      by h t true =
          let found_below = final_sum (λ j. same j.name t.name) (through_junction same m l.road l.number)
          (served e l) m.junctions (junction_served e l w h) in
          omega arith
      by h t false =
          let one_at_most = list_o_one (link_at e l) (lookup_at_end same m t.name t.contact)
          (λ k.
          lookup_one same A m keys t.name
          (end_section (sections_of same m.roads t.name) t.contact) t.contact k) in
          omega arith

      on : next_section (sections_of same m.roads l.road) l.section e ≡ none → (o : Option Target)
          → length (list_o o (cross same m l (link_at e l))) ≤ 1 + sum_of (served e l) m.junctions
      on h none = omega arith
      on h (some t) = by h t t.is_junction

      go : (o : Option ℕ) → next_section (sections_of same m.roads l.road) l.section e ≡ o
          → length (exits_by same m l e o) ≤ 1 + sum_of (served e l) m.junctions
      go (some s) h =
          let one_at_most = list_o_one (link_at e l) (lookup same m.lanes l.road s (not e))
          (λ k. lookup_one same A m keys l.road s (not e) k) in
          omega arith
      go none h = on h (bind_o (road_of same m.roads l.road) (target_at e))

  -- a pair serves one lane at an end
  pair_once : (e : Bool) (c : Connection) (p : Pair) → sum_of (λ l. serves e c p l) m.lanes ≤ 1
  unfolding serves
  pair_once e c p =
      let counted = keep_sum
      (stands_at same c.incoming (end_section (sections_of same m.roads c.incoming) e) p.from)
      m.lanes in
      omega (
        arith,
        lookup_one same A m keys c.incoming (end_section (sections_of same m.roads c.incoming) e) e p.from,
        entered,
      )
    where
      entered : length (lookup same m.lanes c.incoming
          (end_section (sections_of same m.roads c.incoming) e) e p.from)
          ≡ length (keep
          (stands_at same c.incoming (end_section (sections_of same m.roads c.incoming) e) p.from)
          m.lanes)
      entered =
          unfold lookup in length-map
          (keep
          (stands_at same c.incoming (end_section (sections_of same m.roads c.incoming) e) p.from)
          m.lanes) (λ (l : Lane). make l)
        where
          make : Lane → Entry
          make l = record { lane = l; contact = e }

  abbrev pairs_in : ℕ
  pairs_in = length (gather (λ (j : Junction). gather (λ (c : Connection). c.pairs) j.connections) m.junctions)

  all_served : (e : Bool) → sum_of (λ l. sum_of (served e l) m.junctions) m.lanes ≤ pairs_in
  unfolding served
  all_served e =
      let swapped = sum_swap (λ (l : Lane) (j : Junction). served e l j) m.lanes m.junctions in
      let each_below =
      sum_le (λ (j : Junction). sum_of (λ (l : Lane). served e l j) m.lanes)
      (λ j. length (gather (λ (c : Connection). c.pairs) j.connections)) m.junctions one in
      omega (
        arith,
        gather_sum (λ (j : Junction). gather (λ (c : Connection). c.pairs) j.connections) m.junctions,
      )
    where
      two : (c : Connection)
          → sum_of (λ (l : Lane). sum_of (λ p. serves e c p l) c.pairs) m.lanes ≤ length c.pairs
      two c =
          omega (
            arith,
            sum_swap (λ (l : Lane) (p : Pair). serves e c p l) m.lanes c.pairs,
            sum_le (λ (p : Pair). sum_of (λ (l : Lane). serves e c p l) m.lanes) (λ p. 1) c.pairs (pair_once e c),
            sum_one c.pairs,
          )

      one : (j : Junction)
          → sum_of (λ (l : Lane). served e l j) m.lanes
          ≤ length (gather (λ (c : Connection). c.pairs) j.connections)
      one j =
          let swapped = sum_swap (λ (l : Lane) (c : Connection). sum_of (λ p. serves e c p l) c.pairs) m.lanes
          j.connections in
          let each_below =
          sum_le
          (λ (c : Connection). sum_of (λ (l : Lane). sum_of (λ p. serves e c p l) c.pairs) m.lanes)
          (λ c. length c.pairs) j.connections two in
          omega (arith, gather_sum (λ (c : Connection). c.pairs) j.connections)

  pub exits_all : (e : Bool) → sum_of (λ l. length (exits same m l e)) m.lanes ≤ length m.lanes + pairs_in
  exits_all e =
      let each_below =
      sum_le_each (Placed same m.roads) (λ (l : Lane). length (exits same m l e))
      (λ l. 1 + sum_of (served e l) m.junctions) m.lanes v.placed (exits_served e) in
      omega (
        arith,
        sum_plus (λ (l : Lane). 1) (λ l. sum_of (served e l) m.junctions) m.lanes,
        sum_one m.lanes,
        all_served e,
      )

  successors_of_all : sum_of (λ l. length (successors_of same m l)) m.lanes ≤ (length m.lanes + pairs_in) +
      (length m.lanes + pairs_in)
  successors_of_all =
      let each_below =
      sum_le (λ (l : Lane). length (successors_of same m l))
      (λ l. length (exits same m l true) + length (exits same m l false)) m.lanes
      (successors_of_exits same m) in
      omega (
        arith,
        sum_plus (λ (l : Lane). length (exits same m l true)) (λ l. length (exits same m l false)) m.lanes,
        exits_all true,
        exits_all false,
      )

  module _ (ids : distinct (λ (a b : Lane). eqb a.identity b.identity) m.lanes ≡ true) where
    back_links_all : sum_of (λ l. length (back_links same m l)) m.lanes
        ≤ sum_of (λ l. length (successors_of same m l)) m.lanes
    back_links_all =
        let links-below =
        sum_le (λ (l : Lane). length (back_links same m l))
        (λ l. sum_of (λ (b : Lane). length (keep (eqb l.identity) (successors_of same m b))) m.lanes)
        m.lanes one in
        let swapped =
        sum_swap (λ (l b : Lane). length (keep (eqb l.identity) (successors_of same m b))) m.lanes
        m.lanes in
        let each_below =
        sum_le (λ (b : Lane).
        sum_of (λ (l : Lane). length (keep (eqb l.identity) (successors_of same m b))) m.lanes)
        (λ b. length (successors_of same m b)) m.lanes
        (λ b. found_few m.lanes ids (successors_of same m b)) in
        omega arith
      where
        below : (l b : Lane) → bit (finds_back same m l b) ≤ length (keep (eqb l.identity) (successors_of same m b))
        below l b =
            unfold finds_back in go (is_both b.direction) (not (member b.identity (successors_of same m l)))
            (there l.identity (successors_of same m b))
          where
            go : (x y : Bool)
                → bit (member l.identity (successors_of same m b))
                ≤ length (keep (eqb l.identity) (successors_of same m b))
                → cond (x && member l.identity (successors_of same m b) && y) 1 0
                ≤ length (keep (eqb l.identity) (successors_of same m b))
            go false y h = omega arith
            go true true h = cut (member l.identity (successors_of same m b)) h
              where
                cut : (z : Bool) → cond z 1 0 ≤ length (keep (eqb l.identity) (successors_of same m b))
                    → cond (z && true) 1 0 ≤ length (keep (eqb l.identity) (successors_of same m b))
                cut true q = q
                cut false q = q
            go true false h = zero_case (member l.identity (successors_of same m b))
              where
                zero_case : (z : Bool)
                    → cond (z && false) 1 0 ≤ length (keep (eqb l.identity) (successors_of same m b))
                zero_case true = omega arith
                zero_case false = omega arith

        one : (l : Lane)
            → length (back_links same m l)
            ≤ sum_of (λ (b : Lane). length (keep (eqb l.identity) (successors_of same m b))) m.lanes
        one l = unfold back_links in go (is_both l.direction)
          where
            go : (d : Bool)
                → length (cond d (map (λ (b : Lane). b.identity) (keep (finds_back same m l) m.lanes)) []) ≤
                sum_of (λ (b : Lane). length (keep (eqb l.identity) (successors_of same m b))) m.lanes
            go true =
                let same_length = length-map (keep (finds_back same m l) m.lanes) (λ (b : Lane). b.identity) in
                let counted = keep_sum (finds_back same m l) m.lanes in
                let each_below = sum_le (λ (b : Lane). bit (finds_back same m l b))
                (λ b. length (keep (eqb l.identity) (successors_of same m b))) m.lanes (below l) in
                omega arith
            go false = omega arith

    -- all identities: at most four for each lane and each pair
    pub ids_tight : length (gather (λ l. l) (successor_lists same m)) ≤ 4 * (length m.lanes + pairs_in)
    unfolding successor_lists
    ids_tight =
        let as-sum =
        ap length (gather_map (successors same m) (λ (l : List ℕ). l) m.lanes)
        ∙ gather_sum (successors same m) m.lanes
        ∙ sum_ext (λ l. length (successors same m l))
        (λ l. length (successors_of same m l) + length (back_links same m l)) m.lanes one in
        omega (
          arith,
          sum_plus (λ (l : Lane). length (successors_of same m l)) (λ l. length (back_links same m l)) m.lanes,
          successors_of_all,
          back_links_all,
        )
      where
        one : (l : Lane) → length (successors same m l) ≡ length (successors_of same m l) + length (back_links same m l)
        one l =
            unfold successors in (length_sort (successors_of same m l ++ back_links same m l)
            ∙ length-append (successors_of same m l) (back_links same m l))
