-- How many identities succession can write, by lanes and pairs; the lists before hold no more than the lists onward.
use mathlib.Core.Path.{◌≡◌, refl, sym, ◌∙◌, ap, ap₂, subst}
use mathlib.Core.Bool.{Bool, true, false, not, ◌||◌, cond, true≢false}
use mathlib.Core.Option.{Option, none, some}
use mathlib.Core.List.{List, [], ◌∷◌, ◌++◌, map}
use Prim.Native.Nat.{ℕ, suc, ◌+◌, ◌*◌, ◌≤◌}
use native.Mathlib.Nat.{suc-mul, zero-mul}
use native.Mathlib.Omega.{arith}
use lib.Dec.{eqb, leb}
use lib.ListN.{length, length-append, length-map}
use borrow.Author.Tests.{eqb-true, not-true}
use Rattle.geometry.specs.declared.gap.Direction.{Direction}
use Rattle.geometry.specs.declared.gap.Direction.TheVariants.{Backward, Both, Forward}
use Rattle.model.specs.Lists.{bind_o, distinct, final, first, gather, insert, keep, list_o, member, once, or_else}
use Rattle.model.specs.Lists.{some?, sort}
use Rattle.model.specs.Records.{Connection, Junction, Lane, Map, Pair, Span, Target, link_at, target_at}
use Rattle.model.specs.Repair.{road_of}
use Rattle.model.specs.Rules.{same_key}
use Rattle.model.specs.Succession.{Entry, back_links, cross, end_section, entry_id, exits, exits_by, finds_back}
use Rattle.model.specs.Succession.{is_both, junction_of, lookup, lookup_at_end, next_section, predecessor_lists}
use Rattle.model.specs.Succession.{predecessors, runs_away, sections_of, stands_at, successor_lists, successors}
use Rattle.model.specs.Succession.{successors_by, successors_of, through_junction, through_pairs}
use Rattle.laws.proofs.Basics.{gather_map}
use Rattle.laws.proofs.ByBytes.{one_lane}
use Rattle.laws.proofs.ListTests.{and_left, and_right}
use Rattle.laws.proofs.Valid.{Alike}

-- ---- lengths
pub length_insert : (n : ℕ) (xs : List ℕ) → length (insert n xs) ≡ suc (length xs)
length_insert n [] = refl
length_insert n (x ∷ xs) = go (leb n x) (length_insert n xs)
  where
    go : (b : Bool) → length (insert n xs) ≡ suc (length xs)
        → length (cond b (n ∷ x ∷ xs) (x ∷ insert n xs)) ≡ suc (suc (length xs))
    go true ih = refl
    go false ih = ap suc ih

pub length_sort : (xs : List ℕ) → length (sort xs) ≡ length xs
length_sort [] = refl
length_sort (x ∷ xs) = length_insert x (sort xs) ∙ ap suc (length_sort xs)

pub length_once : (xs : List ℕ) → length (once xs) ≤ length xs
length_once [] = omega arith
length_once (x ∷ xs) = go (member x xs) (length_once xs)
  where
    go : (b : Bool) → length (once xs) ≤ length xs → length (cond b (once xs) (x ∷ once xs)) ≤ suc (length xs)
    go true ih = omega arith
    go false ih = omega arith

pub length_keep : {A : Type 0} (p : A → Bool) (xs : List A) → length (keep p xs) ≤ length xs
length_keep p [] = omega arith
length_keep p (x ∷ xs) = go (p x) (length_keep p xs)
  where
    go : (b : Bool) → length (keep p xs) ≤ length xs → length (cond b (x ∷ keep p xs) (keep p xs)) ≤ suc (length xs)
    go true ih = omega arith
    go false ih = omega arith

-- lists of at most k each
pub gather_most : {A B : Type 0} (k : ℕ) (f : A → List B) (xs : List A) → ((x : A) → length (f x) ≤ k)
    → length (gather f xs) ≤ length xs * k
gather_most k f [] h = omega (arith, zero-mul k)
gather_most k f (x ∷ xs) h =
    omega (arith, length-append (f x) (gather f xs), h x, gather_most k f xs h, suc-mul (length xs) k)

-- each list at most as long as another, of those that are kept
gather_kept : {A B C : Type 0} (p : A → Bool) (f : A → List B) (g : A → List C) (xs : List A)
    → ((x : A) → length (f x) ≤ length (g x)) → length (gather f (keep p xs)) ≤ length (gather g xs)
gather_kept p f g [] h = omega arith
gather_kept {B = B} p f g (x ∷ xs) h = go (p x) (gather_kept p f g xs h)
  where
    go : (b : Bool) → length (gather f (keep p xs)) ≤ length (gather g xs)
        → length (gather f (cond b (x ∷ keep p xs) (keep p xs))) ≤ length (g x ++ gather g xs)
    go true ih =
        omega (arith, length-append (f x) (gather f (keep p xs)), h x, length-append (g x) (gather g xs))
    go false ih = omega (arith, length-append (g x) (gather g xs))

abbrev pairs_of : Junction → List Pair
pairs_of j = gather (λ c. c.pairs) j.connections

final_most : {B : Type 0} (p : Junction → Bool) (g : Junction → List B) (js : List Junction)
    → ((j : Junction) → length (g j) ≤ length (pairs_of j))
    → length (list_o (final p js) g) ≤ length (gather pairs_of js)
final_most p g [] h = omega arith
final_most p g (j ∷ js) h = go (final p js) (final_most p g js h) (p j)
  where
    go : (o : Option Junction) → length (list_o o g) ≤ length (gather pairs_of js) → (b : Bool)
        → length (list_o (or_else o (cond b (some j) none)) g) ≤ length (pairs_of j ++ gather pairs_of js)
    go (some k) ih b = omega (arith, length-append (pairs_of j) (gather pairs_of js))
    go none ih true = omega (arith, length-append (pairs_of j) (gather pairs_of js), h j)
    go none ih false = omega arith

-- a lane finds at most as many successors as it has exits
pub successors_of_exits : (same : Span → Span → Bool) (m : Map) (l : Lane)
    → length (successors_of same m l) ≤ length (exits same m l true) + length (exits same m l false)
unfolding successors_of
successors_of_exits same m l = go l.direction
  where
    side : (e : Bool) → length (sort (map entry_id (exits same m l e))) ≡ length (exits same m l e)
    side e = length_sort (map entry_id (exits same m l e)) ∙ length-map (exits same m l e) entry_id

    go : (d : Direction)
        → length (successors_by same m l d) ≤ length (exits same m l true) + length (exits same m l false)
    go Forward = omega (arith, side true)
    go Backward = omega (arith, side false)
    go Both =
        omega (
          arith,
          length_once (sort (map entry_id (keep runs_away (exits same m l true ++ exits same m l false)))),
          length_sort (map entry_id (keep runs_away (exits same m l true ++ exits same m l false))),
          length-map (keep runs_away (exits same m l true ++ exits same m l false)) entry_id,
          length_keep runs_away (exits same m l true ++ exits same m l false),
          length-append (exits same m l true) (exits same m l false),
        )

module _ (same : Span → Span → Bool) (A : Alike same) (m : Map)
    (keys : distinct (same_key same) m.lanes ≡ true) where
  -- a lookup finds one lane at most
  pub lookup_one : (n : Span) (s : ℕ) (e : Bool) (k : ℕ) → length (lookup same m.lanes n s e k) ≤ 1
  unfolding lookup
  lookup_one n s e k =
      subst (λ (n : ℕ). n ≤ 1) (sym (length-map (keep (stands_at same n s k) m.lanes) entered))
      (subst (λ (l : List Lane). length l ≤ 1) (sym (one_lane same A n s k m.lanes keys))
      (few (first (stands_at same n s k) m.lanes)))
    where
      entered : Lane → Entry
      entered l = record { lane = l; contact = e }

      few : (o : Option Lane) → length (list_o o (λ l. l ∷ [])) ≤ 1
      few none = omega arith
      few (some l) = omega arith

  list_o_one : (o : Option ℕ) (f : ℕ → List Entry) → ((k : ℕ) → length (f k) ≤ 1) → length (list_o o f) ≤ 1
  list_o_one none f h = omega arith
  list_o_one (some k) f h = h k

  abbrev all : ℕ
  all = length (gather pairs_of m.junctions)

  through_pairs_few : (c : Connection) (k : ℕ) → length (through_pairs same m c k) ≤ length c.pairs
  unfolding through_pairs lookup_at_end
  through_pairs_few c k =
      let one_each = gather_most 1 (λ p. lookup_at_end same m c.connecting c.contact p.to)
      (keep (λ p. eqb p.from k) c.pairs)
      (λ p.
      lookup_one c.connecting (end_section (sections_of same m.roads c.connecting) c.contact)
      c.contact p.to) in
      omega (arith, length_keep (λ (p : Pair). eqb p.from k) c.pairs)

  through_junction_few : (n : Span) (k : ℕ) (j : Junction)
      → length (through_junction same m n k j) ≤ length (pairs_of j)
  unfolding through_junction
  through_junction_few n k j =
      gather_kept (λ c. same c.incoming n) (λ c. through_pairs same m c k) (λ c. c.pairs) j.connections
      (λ c. through_pairs_few c k)

  cross_few : (l : Lane) (o : Option ℕ) (t : Target) → length (cross same m l o t) ≤ suc all
  unfolding junction_of lookup_at_end
  cross_few l o t = go t.is_junction
    where
      go : (b : Bool)
          → length (cond b
          (list_o (junction_of same m.junctions t.name) (through_junction same m l.road l.number))
          (list_o o (lookup_at_end same m t.name t.contact))) ≤ suc all
      go true =
          let found_below = final_most (λ j. same j.name t.name) (through_junction same m l.road l.number)
          m.junctions (through_junction_few l.road l.number) in
          omega arith
      go false =
          let one_at_most = list_o_one o (lookup_at_end same m t.name t.contact)
          (λ k.
          lookup_one t.name (end_section (sections_of same m.roads t.name) t.contact) t.contact
          k) in
          omega arith

  exits_few : (l : Lane) (e : Bool) → length (exits same m l e) ≤ suc all
  unfolding exits
  exits_few l e = go (next_section (sections_of same m.roads l.road) l.section e)
    where
      on : (o : Option Target) → length (list_o o (cross same m l (link_at e l))) ≤ suc all
      on none = omega arith
      on (some t) = cross_few l (link_at e l) t

      go : (o : Option ℕ) → length (exits_by same m l e o) ≤ suc all
      go (some s) =
          omega (
            arith,
            list_o_one (link_at e l) (lookup same m.lanes l.road s (not e)) (λ k. lookup_one l.road s (not e) k),
          )
      go none = on (bind_o (road_of same m.roads l.road) (target_at e))

  successors_of_few : (l : Lane) → length (successors_of same m l) ≤ suc all + suc all
  successors_of_few l =
      omega (arith, successors_of_exits same m l, exits_few l true, exits_few l false)

  back_links_few : (l : Lane) → length (back_links same m l) ≤ length m.lanes
  unfolding back_links
  back_links_few l = go (is_both l.direction)
    where
      go : (b : Bool)
          → length (cond b (map (λ b. b.identity) (keep (finds_back same m l) m.lanes)) [])
          ≤ length m.lanes
      go true =
          omega (
            arith,
            length-map (keep (finds_back same m l) m.lanes) (λ (b : Lane). b.identity),
            length_keep (finds_back same m l) m.lanes,
          )
      go false = omega arith

  -- a lane's list, and all of them
  pub successors_few : (l : Lane) → length (successors same m l) ≤ suc all + suc all + length m.lanes
  unfolding successors
  successors_few l =
      omega (
        arith,
        length_sort (successors_of same m l ++ back_links same m l),
        length-append (successors_of same m l) (back_links same m l),
        successors_of_few l,
        back_links_few l,
      )

  pub ids_few : length (gather (λ l. l) (successor_lists same m)) ≤ length m.lanes *
      (suc all + suc all + length m.lanes)
  unfolding successor_lists
  ids_few =
      let joined = gather_map (successors same m) (λ (l : List ℕ). l) m.lanes in
      subst (λ (l : List ℕ). length l ≤ length m.lanes * (suc all + suc all + length m.lanes)) (sym joined)
      (gather_most (suc all + suc all + length m.lanes) (successors same m) m.lanes successors_few)

-- ---- the lists before hold no more
unfoldable pub sum_of : {A : Type 0} → (A → ℕ) → List A → ℕ
sum_of f [] = 0
sum_of f (x ∷ xs) = f x + sum_of f xs

pub gather_sum : {A B : Type 0} (f : A → List B) (xs : List A) → length (gather f xs) ≡ sum_of (λ x. length (f x)) xs
unfolding sum_of
gather_sum f [] = refl
gather_sum f (x ∷ xs) = length-append (f x) (gather f xs) ∙ ap (λ (k : ℕ). length (f x) + k) (gather_sum f xs)

pub sum_ext : {A : Type 0} (f g : A → ℕ) (xs : List A) → ((x : A) → f x ≡ g x) → sum_of f xs ≡ sum_of g xs
unfolding sum_of
sum_ext f g [] h = refl
sum_ext f g (x ∷ xs) h = ap₂ (λ (a b : ℕ). a + b) (h x) (sum_ext f g xs h)

pub sum_le : {A : Type 0} (f g : A → ℕ) (xs : List A) → ((x : A) → f x ≤ g x) → sum_of f xs ≤ sum_of g xs
unfolding sum_of
sum_le f g [] h = omega arith
sum_le f g (x ∷ xs) h = omega (arith, h x, sum_le f g xs h)

pub sum_plus : {A : Type 0} (f g : A → ℕ) (xs : List A) → sum_of (λ x. f x + g x) xs ≡ sum_of f xs + sum_of g xs
unfolding sum_of
sum_plus f g [] = refl
sum_plus f g (x ∷ xs) = omega (arith, sum_plus f g xs)

pub sum_zero : {A : Type 0} (xs : List A) → sum_of (λ x. 0) xs ≡ 0
unfolding sum_of
sum_zero [] = refl
sum_zero (x ∷ xs) = omega (arith, sum_zero xs)

pub sum_swap : {A B : Type 0} (g : A → B → ℕ) (xs : List A) (ys : List B)
    → sum_of (λ x. sum_of (g x) ys) xs ≡ sum_of (λ y. sum_of (λ x. g x y) xs) ys
unfolding sum_of
sum_swap g [] ys = sym (sum_zero ys)
sum_swap g (x ∷ xs) ys =
    ap (λ (k : ℕ). sum_of (g x) ys + k) (sum_swap g xs ys) ∙ sym (sum_plus (g x) (λ y. sum_of (λ x. g x y) xs) ys)

-- a number is one lane's identity at most
pub once_known : (n : ℕ) (ls : List Lane) → distinct (λ (a b : Lane). eqb a.identity b.identity) ls ≡ true
    → sum_of (λ l. cond (eqb l.identity n) 1 0) ls ≤ 1
unfolding sum_of
once_known n [] h = omega arith
once_known n (l ∷ ls) h =
    go (eqb l.identity n) refl
    (once_known n ls (and_right (not (some? (λ (b : Lane). eqb l.identity b.identity) ls))
    (distinct (λ (a b : Lane). eqb a.identity b.identity) ls) h))
  where
    no_other : (ms : List Lane) → some? (λ (b : Lane). eqb n b.identity) ms ≡ false
        → sum_of (λ m. cond (eqb m.identity n) 1 0) ms ≡ 0
    no_other [] q = refl
    no_other (m ∷ ms) q = one (eqb n m.identity) refl q (no_other ms)
      where
        one : (b : Bool) → eqb n m.identity ≡ b → b || some? (λ (b : Lane). eqb n b.identity) ms ≡ false
            → (some? (λ (b : Lane). eqb n b.identity) ms ≡ false
            → sum_of (λ m. cond (eqb m.identity n) 1 0) ms ≡ 0) →
            cond (eqb m.identity n) 1 0 + sum_of (λ m. cond (eqb m.identity n) 1 0) ms ≡ 0
        one true e q ih = absurd (true≢false q)
        one false e q ih =
            ap₂ (λ (b : Bool) (k : ℕ). cond b 1 0 + k)
            (borrow.Author.Tests.ne_eqb m.identity n
            (λ w. borrow.Author.Tests.eqb-false n m.identity e (sym w))) (ih q)

    go : (b : Bool) → eqb l.identity n ≡ b → sum_of (λ m. cond (eqb m.identity n) 1 0) ls ≤ 1
        → cond b 1 0 + sum_of (λ m. cond (eqb m.identity n) 1 0) ls ≤ 1
    go false e ih = omega arith
    go true e ih =
        let q : some? (λ (b : Lane). eqb n b.identity) ls ≡ false =
        ap (λ (k : ℕ). some? (λ (b : Lane). eqb k b.identity) ls) (sym (eqb-true l.identity n e))
        ∙ not-true (some? (λ (b : Lane). eqb l.identity b.identity) ls)
        (and_left (not (some? (λ (b : Lane). eqb l.identity b.identity) ls))
        (distinct (λ (a b : Lane). eqb a.identity b.identity) ls) h) in
        omega (arith, no_other ls q)

-- so of a list at most as many are found as it has
pub found_few : (ls : List Lane) → distinct (λ (a b : Lane). eqb a.identity b.identity) ls ≡ true
    → (xs : List ℕ) → sum_of (λ l. length (keep (eqb l.identity) xs)) ls ≤ length xs
found_few ls h [] = omega (arith, sum_zero ls)
found_few ls h (x ∷ xs) =
    let one_more = sum_ext (λ (l : Lane).
    length (cond (eqb l.identity x) (x ∷ keep (eqb l.identity) xs) (keep (eqb l.identity) xs)))
    (λ l. cond (eqb l.identity x) 1 0 + length (keep (eqb l.identity) xs)) ls
    (λ l. step (eqb l.identity x) (keep (eqb l.identity) xs)) in
    omega (
      arith,
      sum_plus (λ (l : Lane). cond (eqb l.identity x) 1 0) (λ l. length (keep (eqb l.identity) xs)) ls,
      once_known x ls h,
      found_few ls h xs,
    )
  where
    step : (b : Bool) (r : List ℕ) → length (cond b (x ∷ r) r) ≡ cond b 1 0 + length r
    step true r = omega arith
    step false r = omega arith

pub predecessors_few : (same : Span → Span → Bool) (m : Map)
    → distinct (λ (a b : Lane). eqb a.identity b.identity) m.lanes ≡ true
    → length (gather (λ l. l) (predecessor_lists same m)) ≤ length (gather (λ l. l) (successor_lists same m))
unfolding predecessor_lists successor_lists
predecessors_few same m h =
    let L : List Lane = m.lanes in
    let as-sum =
    ap length (gather_map (predecessors same m) (λ (l : List ℕ). l) m.lanes)
    ∙ gather_sum (predecessors same m) m.lanes
    ∙ sum_ext (λ l. length (predecessors same m l))
    (λ l. sum_of (λ a. length (keep (eqb l.identity) (successors same m a))) m.lanes) m.lanes
    each_predecessors in
    let swapped =
    sum_swap (λ (l a : Lane). length (keep (eqb l.identity) (successors same m a))) m.lanes
    m.lanes in
    let each_below =
    sum_le (λ (a : Lane).
    sum_of (λ (l : Lane). length (keep (eqb l.identity) (successors same m a))) m.lanes)
    (λ a. length (successors same m a)) m.lanes (λ a. found_few m.lanes h (successors same m a)) in
    let successors-sum =
    ap length (gather_map (successors same m) (λ (l : List ℕ). l) m.lanes)
    ∙ gather_sum (successors same m) m.lanes in
    omega arith
  where
    each_predecessors : (l : Lane)
        → length (predecessors same m l)
        ≡ sum_of (λ a. length (keep (eqb l.identity) (successors same m a))) m.lanes
    each_predecessors l =
        unfold predecessors in (length_sort (gather
        (λ (a : Lane). map (λ (i : ℕ). a.identity) (keep (eqb l.identity) (successors same m a)))
        m.lanes)
        ∙ gather_sum
        (λ (a : Lane). map (λ (i : ℕ). a.identity) (keep (eqb l.identity) (successors same m a)))
        m.lanes
        ∙ sum_ext
        (λ (a : Lane). length (map (λ (i : ℕ). a.identity) (keep (eqb l.identity) (successors same m a))))
        (λ (a : Lane). length (keep (eqb l.identity) (successors same m a))) m.lanes
        (λ a. length-map (keep (eqb l.identity) (successors same m a)) (λ (i : ℕ). a.identity)))
