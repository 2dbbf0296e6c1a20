-- Sets of roads as marks: a set fed marks, and the empty set.
use mathlib.Core.Path.{◌≡◌, refl, sym, ap, fun_ext}
use mathlib.Core.Bool.{Bool, true, false, cond, false≢true}
use mathlib.Core.List.{List, [], ◌∷◌, map}
use Prim.Native.Nat.{ℕ}
use lib.Dec.{eqb, leb}
use borrow.Author.Tests.{eqb-true}
use Rattle.model.specs.Lists.{◌⊕◌, every}
use Rattle.model.specs.Records.{Road, Span}
use Rattle.model.specs.Reversal.{marked}
use Rattle.model.specs.Sequence.{is_empty, toggled_mark, toggled_marks}
use Rattle.laws.proofs.ListTests.{and_both, and_left, and_right}
use Rattle.laws.proofs.Valid.{mark_for, nobody, toggled}

mark_bit : (s k : ℕ) → eqb (toggled_mark s k) 1 ≡ eqb s 1 ⊕ eqb k 1
mark_bit s k = go (eqb k 1) (eqb s 1) refl
  where
    go : (b a : Bool) → eqb s 1 ≡ a → eqb (cond b (cond a 0 1) s) 1 ≡ a ⊕ b
    go true true q = refl
    go true false q = refl
    go false true q = q
    go false false q = q

mark_small : (s k : ℕ) → leb s 1 ≡ true → leb (toggled_mark s k) 1 ≡ true
mark_small s k h = go (eqb k 1) (eqb s 1)
  where
    go : (b a : Bool) → leb (cond b (cond a 0 1) s) 1 ≡ true
    go true true = refl
    go true false = refl
    go false a = h

pub toggled_for : (rs : List Road) (ss ks : List ℕ) → mark_for rs ss ≡ true → mark_for rs ks ≡ true
    → mark_for rs (toggled_marks ss ks) ≡ true
toggled_for [] [] ks h q = refl
toggled_for [] (s ∷ ss) ks h q = absurd (false≢true h)
toggled_for (r ∷ rs) [] ks h q = absurd (false≢true h)
toggled_for (r ∷ rs) (s ∷ ss) [] h q = absurd (false≢true q)
toggled_for (r ∷ rs) (s ∷ ss) (k ∷ ks) h q =
    and_both (leb (toggled_mark s k) 1) (mark_for rs (toggled_marks ss ks))
    (mark_small s k (and_left (leb s 1) (mark_for rs ss) h))
    (toggled_for rs ss ks (and_right (leb s 1) (mark_for rs ss) h) (and_right (leb k 1) (mark_for rs ks) q))

module _ (alike : Span → Span → Bool) where
  toggled_at : (rs : List Road) (ss ks : List ℕ) → mark_for rs ss ≡ true → mark_for rs ks ≡ true → (n : Span)
      → marked alike rs (toggled_marks ss ks) n ≡ marked alike rs ss n ⊕ marked alike rs ks n
  toggled_at [] [] ks h q n = refl
  toggled_at [] (s ∷ ss) ks h q n = absurd (false≢true h)
  toggled_at (r ∷ rs) [] ks h q n = absurd (false≢true h)
  toggled_at (r ∷ rs) (s ∷ ss) [] h q n = absurd (false≢true q)
  toggled_at (r ∷ rs) (s ∷ ss) (k ∷ ks) h q n =
      go (alike r.name n)
      (toggled_at rs ss ks (and_right (leb s 1) (mark_for rs ss) h) (and_right (leb k 1) (mark_for rs ks) q) n)
    where
      go : (b : Bool) → marked alike rs (toggled_marks ss ks) n ≡ marked alike rs ss n ⊕ marked alike rs ks n →
          cond b (eqb (toggled_mark s k) 1) (marked alike rs (toggled_marks ss ks) n)
          ≡ cond b (eqb s 1) (marked alike rs ss n) ⊕ cond b (eqb k 1) (marked alike rs ks n)
      go true ih = mark_bit s k
      go false ih = ih

  pub toggled_is : (rs : List Road) (ss ks : List ℕ) → mark_for rs ss ≡ true → mark_for rs ks ≡ true
      → marked alike rs (toggled_marks ss ks) ≡ toggled (marked alike rs ss) (marked alike rs ks)
  unfolding toggled
  toggled_is rs ss ks h q = fun_ext (toggled_at rs ss ks h q)

  empty_at : (rs : List Road) (ss : List ℕ) → is_empty ss ≡ true → (n : Span) → marked alike rs ss n ≡ false
  empty_at [] ss h n = refl
  empty_at (r ∷ rs) [] h n = refl
  empty_at (r ∷ rs) (s ∷ ss) h n =
      go (alike r.name n) (empty_at rs ss (and_right (eqb 0 s) (every (eqb 0) ss) h) n)
    where
      go : (b : Bool) → marked alike rs ss n ≡ false → cond b (eqb s 1) (marked alike rs ss n) ≡ false
      go true ih = ap (λ (k : ℕ). eqb k 1) (sym (eqb-true 0 s (and_left (eqb 0 s) (every (eqb 0) ss) h)))
      go false ih = ih

  pub empty_is : (rs : List Road) (ss : List ℕ) → is_empty ss ≡ true → marked alike rs ss ≡ nobody
  unfolding nobody
  empty_is rs ss h = fun_ext (empty_at rs ss h)

pub empty_empty : (rs : List Road) → is_empty (map (λ r. 0) rs) ≡ true
empty_empty [] = refl
empty_empty (r ∷ rs) = empty_empty rs

pub empty_for : (rs : List Road) → mark_for rs (map (λ r. 0) rs) ≡ true
empty_for [] = refl
empty_for (r ∷ rs) = empty_for rs
