-- Sorting by insertion takes no heed of the order and keeps counts and members; a list that ascends is known by
-- its counts.
use mathlib.Core.Path.{◌≡◌, refl, sym, ◌∙◌, ap, ap₂}
use mathlib.Core.Bool.{Bool, true, false, cond, not, ◌||◌, true≢false, or_assoc, false≢true}
use mathlib.Core.List.{List, [], ◌∷◌, ◌++◌, append-nil}
use Prim.Native.Nat.{ℕ, suc, ◌+◌, ◌<◌, ◌≤◌}
use native.Mathlib.Omega.{arith}
use lib.Dec.{leb, eqb}
use borrow.Author.Tests.{leb-true, leb-false, eq-eqb, ne_eqb}
use Rattle.model.specs.Lists.{count, insert, member, sort}
use Rattle.laws.proofs.ForEach.{each_insert, each_map}
use Rattle.laws.proofs.Valid.{Each}

cond_insert : (b : Bool) (n x : ℕ) (xs ys : List ℕ) → insert n (cond b xs ys) ≡ cond b (insert n xs) (insert n ys)
cond_insert true n x xs ys = refl
cond_insert false n x xs ys = refl

pub insert_insert : (a b : ℕ) (xs : List ℕ) → insert a (insert b xs) ≡ insert b (insert a xs)
insert_insert a b [] = go (leb a b) refl (leb b a) refl
  where
    go : (p : Bool) → leb a b ≡ p → (q : Bool) → leb b a ≡ q
        → cond p (a ∷ b ∷ []) (b ∷ a ∷ []) ≡ cond q (b ∷ a ∷ []) (a ∷ b ∷ [])
    go true e true f = let k : a ≡ b = omega (arith, leb-true a b e, leb-true b a f) in rw k
    go true e false f = refl
    go false e true f = refl
    go false e false f = absurd (omega (arith, leb-false a b e, leb-false b a f))
insert_insert a b (c ∷ cs) = go (leb a c) refl (leb b c) refl (leb a b) refl (leb b a) refl (insert_insert a b cs)
  where
    under : (p q r : Bool) → leb a b ≡ r → leb a c ≡ p → leb b c ≡ q → (s : Bool) → leb b a ≡ s
        → insert a (insert b cs) ≡ insert b (insert a cs) →
        cond q (cond r (a ∷ b ∷ c ∷ cs) (b ∷ cond p (a ∷ c ∷ cs) (c ∷ insert a cs)))
        (cond p (a ∷ c ∷ insert b cs) (c ∷ insert a (insert b cs)))
        ≡ cond p (cond s (b ∷ a ∷ c ∷ cs) (a ∷ cond q (b ∷ c ∷ cs) (c ∷ insert b cs)))
        (cond q (b ∷ c ∷ insert a cs) (c ∷ insert b (insert a cs)))
    under true true true er ep eq true es ih = let k : a ≡ b = omega (arith, leb-true a b er, leb-true b a es) in rw k
    under true true true er ep eq false es ih = refl
    under true true false er ep eq true es ih = refl
    under true true false er ep eq false es ih = absurd (omega (arith, leb-false a b er, leb-false b a es))
    under true false r er ep eq true es ih =
        absurd (omega (arith, leb-true a c ep, leb-false b c eq, leb-true b a es))
    under true false r er ep eq false es ih = refl
    under false true true er ep eq s es ih =
        absurd (omega (arith, leb-false a c ep, leb-true b c eq, leb-true a b er))
    under false true false er ep eq s es ih = refl
    under false false r er ep eq s es ih = ap {B = List ℕ} (λ l. c ∷ l) ih

    left : insert a (cond (leb b c) (b ∷ c ∷ cs) (c ∷ insert b cs))
        ≡ cond (leb b c) (cond (leb a b) (a ∷ b ∷ c ∷ cs) (b ∷ cond (leb a c) (a ∷ c ∷ cs) (c ∷ insert a cs)))
        (cond (leb a c) (a ∷ c ∷ insert b cs) (c ∷ insert a (insert b cs)))
    left = cond_insert (leb b c) a c (b ∷ c ∷ cs) (c ∷ insert b cs)

    right : insert b (cond (leb a c) (a ∷ c ∷ cs) (c ∷ insert a cs))
        ≡ cond (leb a c) (cond (leb b a) (b ∷ a ∷ c ∷ cs) (a ∷ cond (leb b c) (b ∷ c ∷ cs) (c ∷ insert b cs)))
        (cond (leb b c) (b ∷ c ∷ insert a cs) (c ∷ insert b (insert a cs)))
    right = cond_insert (leb a c) b c (a ∷ c ∷ cs) (c ∷ insert a cs)

    go : (p : Bool) → leb a c ≡ p → (q : Bool) → leb b c ≡ q → (r : Bool) → leb a b ≡ r → (s : Bool)
        → leb b a ≡ s → insert a (insert b cs) ≡ insert b (insert a cs) →
        insert a (cond (leb b c) (b ∷ c ∷ cs) (c ∷ insert b cs))
        ≡ insert b (cond (leb a c) (a ∷ c ∷ cs) (c ∷ insert a cs))
    go p ep q eq r er s es ih =
        left ∙ under (leb a c) (leb b c) (leb a b) refl refl refl (leb b a) refl ih ∙ sym right

pub sort_middle : (xs : List ℕ) (y : ℕ) (ys : List ℕ) → sort (xs ++ (y ∷ ys)) ≡ insert y (sort (xs ++ ys))
sort_middle [] y ys = refl
sort_middle (x ∷ xs) y ys = ap (insert x) (sort_middle xs y ys) ∙ insert_insert x y (sort (xs ++ ys))

pub sort_swap : (xs ys : List ℕ) → sort (xs ++ ys) ≡ sort (ys ++ xs)
sort_swap [] ys = ap sort (sym (append-nil ys))
sort_swap (x ∷ xs) ys = ap (insert x) (sort_swap xs ys) ∙ sym (sort_middle ys x xs)

-- ---- counts and members
count_insert : (n x : ℕ) (xs : List ℕ) → count n (insert x xs) ≡ count n (x ∷ xs)
count_insert n x [] = refl
count_insert n x (y ∷ ys) = go (leb x y) (count_insert n x ys)
  where
    swap : (a b : Bool) (k : ℕ)
        → cond a (suc (cond b (suc k) k)) (cond b (suc k) k)
        ≡ cond b (suc (cond a (suc k) k)) (cond a (suc k) k)
    swap true true k = refl
    swap true false k = refl
    swap false true k = refl
    swap false false k = refl

    go : (b : Bool) → count n (insert x ys) ≡ count n (x ∷ ys)
        → count n (cond b (x ∷ y ∷ ys) (y ∷ insert x ys)) ≡ count n (x ∷ y ∷ ys)
    go true ih = refl
    go false ih = ap (λ k. cond (eqb n y) (suc k) k) ih ∙ swap (eqb n y) (eqb n x) (count n ys)

pub count_sort : (n : ℕ) (xs : List ℕ) → count n (sort xs) ≡ count n xs
count_sort n [] = refl
count_sort n (x ∷ xs) = count_insert n x (sort xs) ∙ ap (λ k. cond (eqb n x) (suc k) k) (count_sort n xs)

pub count_append : (n : ℕ) (xs ys : List ℕ) → count n (xs ++ ys) ≡ count n xs + count n ys
count_append n [] ys = omega arith
count_append n (x ∷ xs) ys = go (eqb n x) (count_append n xs ys)
  where
    go : (b : Bool) → count n (xs ++ ys) ≡ count n xs + count n ys
        → cond b (suc (count n (xs ++ ys))) (count n (xs ++ ys))
        ≡ cond b (suc (count n xs)) (count n xs) + count n ys
    go true ih = omega arith
    go false ih = ih

pub member_count : (n : ℕ) (xs : List ℕ) → member n xs ≡ not (eqb (count n xs) 0)
member_count n [] = refl
member_count n (x ∷ xs) = go (eqb n x) (member_count n xs)
  where
    go : (b : Bool) → member n xs ≡ not (eqb (count n xs) 0)
        → b || member n xs ≡ not (eqb (cond b (suc (count n xs)) (count n xs)) 0)
    go true ih = sym (ap not (ne_eqb (suc (count n xs)) 0 (λ q. omega arith)))
    go false ih = ih

pub member_sort : (n : ℕ) (xs : List ℕ) → member n (sort xs) ≡ member n xs
member_sort n xs = member_count n (sort xs) ∙ ap (λ k. not (eqb k 0)) (count_sort n xs) ∙ sym (member_count n xs)

pub member_append : (n : ℕ) (xs ys : List ℕ) → member n (xs ++ ys) ≡ member n xs || member n ys
member_append n [] ys = refl
member_append n (x ∷ xs) ys =
    ap (λ b. eqb n x || b) (member_append n xs ys) ∙ sym (or_assoc (eqb n x) (member n xs) (member n ys))

-- ---- a list that ascends, repeats kept
abbrev pub Ordered : List ℕ → Type 0
Ordered [] = Unit {0}
Ordered (x ∷ xs) = Each (λ y. x ≤ y) xs × Ordered xs

pub ordered_insert : (n : ℕ) (xs : List ℕ) → Ordered xs → Ordered (insert n xs)
ordered_insert n [] h = (tt, tt)
ordered_insert n (x ∷ xs) h = go (leb n x) refl (ordered_insert n xs h.1)
  where
    go : (b : Bool) → leb n x ≡ b → Ordered (insert n xs) → Ordered (cond b (n ∷ x ∷ xs) (x ∷ insert n xs))
    go true q k = let le : n ≤ x = leb-true n x q in ((le, each_map (λ y (w : x ≤ y). omega arith) xs h.0), h)
    go false q k = let lt : x < n = leb-false n x q in (each_insert (λ y. x ≤ y) n xs (omega arith) h.0, k)

pub ordered_sort : (xs : List ℕ) → Ordered (sort xs)
ordered_sort [] = tt
ordered_sort (x ∷ xs) = ordered_insert x (sort xs) (ordered_sort xs)

-- below all of a list: not counted there
below : (n : ℕ) (xs : List ℕ) → Each (λ y. n < y) xs → count n xs ≡ 0
below n [] h = refl
below n (x ∷ xs) h =
    ap (λ b. cond b (suc (count n xs)) (count n xs)) (ne_eqb n x (λ e. omega (arith, h.0))) ∙ below n xs h.1

-- two ascending lists with the same counts are one
pub ordered_unique : (xs ys : List ℕ) → Ordered xs → Ordered ys → ((n : ℕ) → count n xs ≡ count n ys) → xs ≡ ys
ordered_unique [] [] h k e = refl
ordered_unique [] (y ∷ ys) h k e =
    absurd (omega (arith, sym (e y ∙ ap (λ b. cond b (suc (count y ys)) (count y ys)) (eq-eqb y y refl))))
ordered_unique (x ∷ xs) [] h k e =
    absurd (omega (arith, sym (ap (λ b. cond b (suc (count x xs)) (count x xs)) (eq-eqb x x refl)) ∙ e x))
ordered_unique (x ∷ xs) (y ∷ ys) h k e =
    ap₂ {C = List ℕ} (λ a b. a ∷ b) heads (ordered_unique xs ys h.1 k.1 tails)
  where
    at : (n : ℕ) (ns : List ℕ) → count n (n ∷ ns) ≡ suc (count n ns)
    at n ns = ap (λ b. cond b (suc (count n ns)) (count n ns)) (eq-eqb n n refl)

    over : (n m : ℕ) (ms : List ℕ) → n < m → Each (λ z. m ≤ z) ms → count n (m ∷ ms) ≡ 0
    over n m ms l w = below n (m ∷ ms) (l, each_map (λ z (v : m ≤ z). omega arith) ms w)

    heads : x ≡ y
    heads = go (leb x y) refl (leb y x) refl
      where
        go : (b : Bool) → leb x y ≡ b → (c : Bool) → leb y x ≡ c → x ≡ y
        go true p true q = omega (arith, leb-true x y p, leb-true y x q)
        go true p false q = absurd (omega (arith, sym (at x xs) ∙ e x ∙ over x y ys (leb-false y x q) k.0))
        go false p c q = absurd (omega (arith, sym (at y ys) ∙ sym (e y) ∙ over y x xs (leb-false x y p) h.0))

    tails : (n : ℕ) → count n xs ≡ count n ys
    tails n = go (eqb n x) (eqb n y) (ap (eqb n) heads) (e n)
      where
        go : (b c : Bool) → b ≡ c
            → cond b (suc (count n xs)) (count n xs) ≡ cond c (suc (count n ys)) (count n ys)
            → count n xs ≡ count n ys
        go true true p q = omega arith
        go true false p q = absurd (true≢false p)
        go false true p q = absurd (false≢true p)
        go false false p q = q

-- so a list is the sorted one of another if it ascends and has its counts
pub sorted_by_counts : (xs ys : List ℕ) → Ordered ys → ((n : ℕ) → count n ys ≡ count n xs) → ys ≡ sort xs
sorted_by_counts xs ys h e = ordered_unique ys (sort xs) h (ordered_sort xs) (λ n. e n ∙ sym (count_sort n xs))

pub sort_counts : (xs ys : List ℕ) → ((n : ℕ) → count n xs ≡ count n ys) → sort xs ≡ sort ys
sort_counts xs ys e =
    ordered_unique (sort xs) (sort ys) (ordered_sort xs) (ordered_sort ys)
    (λ n. count_sort n xs ∙ e n ∙ sym (count_sort n ys))
