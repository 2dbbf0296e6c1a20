-- The lists before are the lists onward read the other way, as often; of two two-way lanes each lists the other
-- or neither does.
use mathlib.Core.Path.{◌≡◌, refl, sym, ◌∙◌, ap, ap₂}
use mathlib.Core.Bool.{Bool, true, false, not, ◌&&◌, ◌||◌, cond, true≢false, or_comm}
use mathlib.Core.List.Memᴰ
use mathlib.Core.List.{List, [], ◌∷◌, ◌++◌, map, Memᴰ}
use mathlib.Core.Logic.{◌⊎◌, inl, inr}
use Prim.Native.Nat.{ℕ, suc, ◌+◌}
use native.Mathlib.Omega.{arith}
use lib.Dec.{eqb}
use lib.ListN.{length}
use borrow.Author.Tests.{eqb-true, eq-eqb, not-true}
use Rattle.model.specs.Lists.{count, distinct, gather, keep, member, some?}
use Rattle.model.specs.Records.{Lane, Map, Span}
use Rattle.model.specs.Succession.{back_links, finds_back, is_both, predecessors, successors, successors_of}
use Rattle.laws.proofs.ListTests.{and_left, and_right, either_right, or_left, or_right}
use Rattle.laws.proofs.Sorting.{count_append, count_sort, member_append, member_sort}

count_constant : {A : Type 0} (n c : ℕ) (ys : List A) → count n (map (λ i. c) ys) ≡ cond (eqb n c) (length ys) 0
count_constant n c [] = go (eqb n c)
  where
    go : (b : Bool) → ◌≡◌ {A = ℕ} 0 (cond b 0 0)
    go true = refl
    go false = refl
count_constant {A} n c (y ∷ ys) = ap (λ k. cond (eqb n c) (suc k) k) (count_constant n c ys) ∙ go (eqb n c)
  where
    go : (b : Bool) → cond b (suc (cond b (length ys) 0)) (cond b (length ys) 0) ≡ cond b (suc (length ys)) 0
    go true = refl
    go false = refl

pub length_keep : (n : ℕ) (ys : List ℕ) → length (keep (eqb n) ys) ≡ count n ys
length_keep n [] = refl
length_keep n (y ∷ ys) = go (eqb n y) (length_keep n ys)
  where
    go : (b : Bool) → length (keep (eqb n) ys) ≡ count n ys
        → length (cond b (y ∷ keep (eqb n) ys) (keep (eqb n) ys)) ≡ cond b (suc (count n ys)) (count n ys)
    go true ih = ap suc ih
    go false ih = ih

abbrev id_of : Lane → ℕ
id_of l = l.identity

abbrev same_id : Lane → Lane → Bool
same_id a b = eqb a.identity b.identity

-- no two lanes of the list have one identity
abbrev pub OneEach : List Lane → Type 0
OneEach ls = distinct same_id ls ≡ true

-- an identity that no lane of a list has
absent_count : (n : ℕ) (g : Lane → List ℕ) (ls : List Lane) → some? (λ b. eqb n b.identity) ls ≡ false
    → count n (gather (λ a. map (λ i. a.identity) (g a)) ls) ≡ 0
absent_count n g [] h = refl
absent_count n g (l ∷ ls) h =
    count_append n (map (λ i. l.identity) (g l)) (gather (λ a. map (λ i. a.identity) (g a)) ls)
    ∙ ap₂ (λ x y. x + y) (count_constant n l.identity (g l))
    (absent_count n g ls (or_right (eqb n l.identity) (some? (λ b. eqb n b.identity) ls) h))
    ∙ ap (λ b. cond b (length (g l)) 0 + 0) (or_left (eqb n l.identity) (some? (λ b. eqb n b.identity) ls) h)

some_of : (p : Lane → Bool) {a : Lane} {ls : List Lane} → Memᴰ a ls → p a ≡ true → some? p ls ≡ true
some_of p {a} {ls} h q = go ls h
  where
    go : (ls : List Lane) → Memᴰ a ls → some? p ls ≡ true
    go [] h = absurd (mathlib.Core.List.Memᴰ.not-nil h)
    go (l ∷ ls) h = one (Memᴰ.cases_cons h) (go ls)
      where
        one : (a ≡ l) ⊎ Memᴰ a ls → (Memᴰ a ls → some? p ls ≡ true) → p l || some? p ls ≡ true
        one (inl e) f = ap (λ b. b || some? p ls) (sym (ap p e) ∙ q)
        one (inr k) f = either_right (p l) (some? p ls) (f k)

-- the first of lanes with one identity each: no other bears its identity
alone : (l : Lane) (ls : List Lane) → OneEach (l ∷ ls) → some? (same_id l) ls ≡ false
alone l ls u =
    not-true (some? (same_id l) ls)
    (and_left (not (some? (same_id l) ls))
    (distinct same_id ls) u)

unlike : (l : Lane) (ls : List Lane) → OneEach (l ∷ ls) → {a : Lane} → Memᴰ a ls
    → eqb a.identity l.identity ≡ false
unlike l ls u {a} k = go (eqb a.identity l.identity) refl
  where
    go : (b : Bool) → eqb a.identity l.identity ≡ b → b ≡ false
    go false q = refl
    go true q =
        sym (sym (alone l ls u)
        ∙ some_of (same_id l) k
        (eq-eqb l.identity a.identity (sym (eqb-true a.identity l.identity q))))

-- the lane of an identity counts alone
own_count : (g : Lane → List ℕ) (a : Lane) (ls : List Lane) → OneEach ls → Memᴰ a ls
    → count a.identity (gather (λ a. map (λ i. a.identity) (g a)) ls) ≡ length (g a)
own_count g a [] u h = absurd (mathlib.Core.List.Memᴰ.not-nil h)
own_count g a (l ∷ ls) u h =
    count_append a.identity (map (λ i. l.identity) (g l)) rest
    ∙ ap (λ x. x + count a.identity rest) (count_constant a.identity l.identity (g l))
    ∙ one (Memᴰ.cases_cons h)
    (own_count g a ls (and_right (not (some? (same_id l) ls))
    (distinct same_id ls) u))
  where
    rest : List ℕ
    rest = gather (λ a. map (λ i. a.identity) (g a)) ls

    one : (a ≡ l) ⊎ Memᴰ a ls → (Memᴰ a ls → count a.identity rest ≡ length (g a))
        → cond (eqb a.identity l.identity) (length (g l)) 0 + count a.identity rest ≡ length (g a)
    one (inl e) f =
        ap₂ (λ b k. cond b (length (g l)) 0 + k)
        (eq-eqb a.identity l.identity (ap (λ (x : Lane). x.identity) e))
        (ap (λ (x : Lane). count x.identity rest) e ∙ absent_count l.identity g ls (alone l ls u))
        ∙ plus (length (g l))
        ∙ ap (λ (x : Lane). length (g x)) (sym e)
      where
        plus : (n : ℕ) → n + 0 ≡ n
        plus n = omega arith
    one (inr k) f = ap₂ (λ b k. cond b (length (g l)) 0 + k) (unlike l ls u k) (f k) ∙ plus (length (g a))
      where
        plus : (n : ℕ) → 0 + n ≡ n
        plus n = omega arith

module _ (same : Span → Span → Bool) (m : Map) (once : OneEach m.lanes) where
  -- b stands in a's successors as often as a in b's predecessors
  pub converse : (a b : Lane) → Memᴰ a m.lanes
      → count b.identity (successors same m a) ≡ count a.identity (predecessors same m b)
  unfolding predecessors
  converse a b a_in =
      let naming : Lane → List ℕ = λ l. keep (eqb b.identity) (successors same m l) in
      sym (count_sort a.identity (gather (λ l. map (λ i. l.identity) (naming l)) m.lanes)
      ∙ own_count naming a m.lanes once a_in
      ∙ length_keep b.identity (successors same m a))

  -- a lane of the list, by its identity
  keep_member : (p : Lane → Bool) (b : Lane) (ls : List Lane) → OneEach ls → Memᴰ b ls
      → member b.identity (map id_of (keep p ls)) ≡ p b
  keep_member p b [] v h = absurd (mathlib.Core.List.Memᴰ.not-nil h)
  keep_member p b (l ∷ ls) v h =
      one (Memᴰ.cases_cons h)
      (keep_member p b ls (and_right (not (some? (same_id l) ls))
      (distinct same_id ls) v))
    where
      less : (p : Lane → Bool) (n : ℕ) (ls : List Lane) → some? (λ b. eqb n b.identity) ls ≡ false
          → member n (map id_of (keep p ls)) ≡ false
      less p n [] q = refl
      less p n (x ∷ xs) q = go (p x) (eqb n x.identity) refl q (less p n xs)
        where
          go : (b c : Bool) → eqb n x.identity ≡ c → c || some? (λ b. eqb n b.identity) xs ≡ false
              → (some? (λ b. eqb n b.identity) xs ≡ false
              → member n (map id_of (keep p xs)) ≡ false) →
              member n (map id_of (cond b (x ∷ keep p xs) (keep p xs))) ≡ false
          go b true w q ih = absurd (true≢false q)
          go true false w q ih = ap (λ c. c || member n (map id_of (keep p xs))) w ∙ ih q
          go false false w q ih = ih q

      found : (c : Bool) → member l.identity (map id_of (cond c (l ∷ keep p ls) (keep p ls))) ≡ c
      found true =
          ap (λ c. c || member l.identity (map id_of (keep p ls)))
          (eq-eqb l.identity l.identity refl)
      found false = less p l.identity ls (alone l ls v)

      skip : (c : Bool) → eqb b.identity l.identity ≡ false
          → member b.identity (map id_of (cond c (l ∷ keep p ls) (keep p ls)))
          ≡ member b.identity (map id_of (keep p ls))
      skip true q = ap (λ c. c || member b.identity (map id_of (keep p ls))) q
      skip false q = refl

      one : (b ≡ l) ⊎ Memᴰ b ls
          → (Memᴰ b ls → member b.identity (map id_of (keep p ls)) ≡ p b)
          → member b.identity (map id_of (cond (p l) (l ∷ keep p ls) (keep p ls))) ≡ p b
      one (inl e) f =
          ap
          (λ (x : Lane). member x.identity (map id_of (cond (p l) (l ∷ keep p ls) (keep p ls))))
          e
          ∙ found (p l)
          ∙ ap p (sym e)
      one (inr k) f = skip (p l) (unlike l ls v k) ∙ f k

  either : (a b : Lane) → Memᴰ b m.lanes → is_both a.direction ≡ true → is_both b.direction ≡ true
      → member b.identity (successors same m a)
      ≡ member b.identity (successors_of same m a) || member a.identity (successors_of same m b)
  unfolding successors back_links finds_back
  either a b b-in a-both b-both =
      member_sort b.identity (successors_of same m a ++ back_links same m a)
      ∙ member_append b.identity (successors_of same m a) (back_links same m a)
      ∙ ap (λ c.
      member b.identity (successors_of same m a) || member b.identity
      (cond c (map id_of (keep (finds_back same m a) m.lanes)) [])) a-both
      ∙ ap (λ c. member b.identity (successors_of same m a) || c)
      (keep_member (finds_back same m a) b m.lanes once b-in
      ∙ ap (λ c.
      c && member a.identity (successors_of same m b) && not (member b.identity (successors_of same m a)))
      b-both)
      ∙ absorb (member b.identity (successors_of same m a)) (member a.identity (successors_of same m b))
    where
      absorb : (x y : Bool) → x || (y && not x) ≡ x || y
      absorb true y = refl
      absorb false true = refl
      absorb false false = refl

  -- of two two-way lanes each lists the other or neither does
  pub both_or_neither : (a b : Lane) → Memᴰ a m.lanes → Memᴰ b m.lanes
      → is_both a.direction ≡ true → is_both b.direction ≡ true →
      member b.identity (successors same m a) ≡ member a.identity (successors same m b)
  both_or_neither a b a_in b-in a-both b-both =
      either a b b-in a-both b-both
      ∙ or_comm (member b.identity (successors_of same m a)) (member a.identity (successors_of same m b))
      ∙ sym (either b a a_in b-both a-both)
