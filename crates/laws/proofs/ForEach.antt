-- What holds of every element of a list: Each, over the list functions of the model.
use mathlib.Core.Path.{◌≡◌, refl, subst, ap, ◌∙◌}
use mathlib.Core.Bool.{Bool, true, false, ◌||◌, cond, false≢true}
use mathlib.Core.Option.{Option, none, some}
use mathlib.Core.List.{List, [], ◌∷◌, ◌++◌, map, reverse, reverse-cons}
use Prim.Native.Nat.{ℕ, zero, suc}
use lib.Dec.{eqb, leb}
use lib.ListN.{take, drop}
use borrow.Author.Tests.{eqb-true}
use Rattle.model.specs.Lists.{amend, final, first, gather, insert, keep, member, once, or_else, sort}
use Rattle.laws.proofs.Basics.{no_some}
use Rattle.laws.proofs.Valid.{Each}

module _ {A : Type 0} where
  pub each : {P : A → Type 0} → ((x : A) → P x) → (xs : List A) → Each P xs
  each f [] = tt
  each f (x ∷ xs) = (f x, each f xs)

  pub each_map : {P Q : A → Type 0} → ((x : A) → P x → Q x) → (xs : List A) → Each P xs → Each Q xs
  each_map f [] h = tt
  each_map f (x ∷ xs) h = (f x h.0, each_map f xs h.1)

  pub each_both : (P Q : A → Type 0) (xs : List A) → Each P xs → Each Q xs → Each (λ x. P x × Q x) xs
  each_both P Q [] h k = tt
  each_both P Q (x ∷ xs) h k = ((h.0, k.0), each_both P Q xs h.1 k.1)

module _ {A : Type 0} (P : A → Type 0) where
  pub each_append : (xs ys : List A) → Each P xs → Each P ys → Each P (xs ++ ys)
  each_append [] ys h k = k
  each_append (x ∷ xs) ys h k = (h.0, each_append xs ys h.1 k)

  pub each_reverse : (xs : List A) → Each P xs → Each P (reverse xs)
  each_reverse [] h = tt
  each_reverse (x ∷ xs) h =
      rw (reverse-cons x xs) (each_append (reverse xs) (x ∷ []) (each_reverse xs h.1) (h.0, tt))

  pub each_take : (n : ℕ) (xs : List A) → Each P xs → Each P (take n xs)
  each_take zero [] h = tt
  each_take zero (x ∷ xs) h = tt
  each_take (suc n) [] h = tt
  each_take (suc n) (x ∷ xs) h = (h.0, each_take n xs h.1)

  pub each_drop : (n : ℕ) (xs : List A) → Each P xs → Each P (drop n xs)
  each_drop zero [] h = h
  each_drop zero (x ∷ xs) h = h
  each_drop (suc n) [] h = tt
  each_drop (suc n) (x ∷ xs) h = each_drop n xs h.1

  pub each_keep : (p : A → Bool) (xs : List A) → Each P xs → Each P (keep p xs)
  each_keep p [] h = tt
  each_keep p (x ∷ xs) h = go (p x) (each_keep p xs h.1)
    where
      go : (b : Bool) → Each P (keep p xs) → Each P (cond b (x ∷ keep p xs) (keep p xs))
      go true k = (h.0, k)
      go false k = k

  -- where the one that is changed, the first that passes, keeps P
  pub each_amend : (p : A → Bool) (f : A → A) (xs : List A) → Each P xs
      → ((x : A) → first p xs ≡ some x → P x → P (f x)) → Each P (amend p f xs)
  each_amend p f [] h k = tt
  each_amend p f (x ∷ xs) h k = go (p x) refl (each_amend p f xs h.1)
    where
      go : (b : Bool) → p x ≡ b → (((y : A) → first p xs ≡ some y → P y → P (f y)) → Each P (amend p f xs))
          → Each P (cond b (f x ∷ xs) (x ∷ amend p f xs))
      go true w ih = (k x (ap {B = Option A} (λ b. cond b (some x) (first p xs)) w) h.0, h.1)
      go false w ih = (h.0, ih (λ y q. k y (ap {B = Option A} (λ b. cond b (some x) (first p xs)) w ∙ q)))

  -- the first and the last that pass a test
  pub first_each : (p : A → Bool) (xs : List A) (a : A) → Each P xs → first p xs ≡ some a → P a
  first_each p [] a h q = absurd (no_some a q)
  first_each p (x ∷ xs) a h q = go (p x) q (first_each p xs a h.1)
    where
      go : (b : Bool) → cond b (some x) (first p xs) ≡ some a → (first p xs ≡ some a → P a) → P a
      go true q ih = let k : x ≡ a = cc in subst P k h.0
      go false q ih = ih q

  pub final_each : (p : A → Bool) (xs : List A) (a : A) → Each P xs → final p xs ≡ some a → P a
  final_each p [] a h q = absurd (no_some a q)
  final_each p (x ∷ xs) a h q = go (final p xs) (p x) q (final_each p xs a h.1)
    where
      go : (o : Option A) (b : Bool) → or_else o (cond b (some x) none) ≡ some a → (o ≡ some a → P a) → P a
      go (some y) b q ih = ih q
      go none true q ih = let k : x ≡ a = cc in subst P k h.0
      go none false q ih = absurd (no_some a q)

-- ---- over a function
module _ {A B : Type 0} (f : A → B) (P : B → Type 0) where
  pub each_of_map : (xs : List A) → Each (λ x. P (f x)) xs → Each P (map f xs)
  each_of_map [] h = tt
  each_of_map (x ∷ xs) h = (h.0, each_of_map xs h.1)

  pub each_of : (xs : List A) → Each P (map f xs) → Each (λ x. P (f x)) xs
  each_of [] h = tt
  each_of (x ∷ xs) h = (h.0, each_of xs h.1)

  pub each_over : (Q : A → Type 0) → ((x : A) → Q x → P (f x)) → (xs : List A) → Each Q xs → Each P (map f xs)
  each_over Q k xs h = each_of_map xs (each_map k xs h)

pub each_gather : {A B : Type 0} (P : A → Type 0) (Q : B → Type 0) (f : A → List B)
    → ((x : A) → P x → Each Q (f x)) → (xs : List A) → Each P xs → Each Q (gather f xs)
each_gather P Q f k [] h = tt
each_gather P Q f k (x ∷ xs) h = each_append Q (f x) (gather f xs) (k x h.0) (each_gather P Q f k xs h.1)

-- ---- lists of numbers
module _ (P : ℕ → Type 0) where
  -- what every member has, and one of them
  pub each_member : (n : ℕ) (xs : List ℕ) → Each P xs → member n xs ≡ true → P n
  each_member n [] h e = absurd (false≢true e)
  each_member n (x ∷ xs) h e = go (eqb n x) refl e (each_member n xs h.1)
    where
      go : (b : Bool) → eqb n x ≡ b → b || member n xs ≡ true → (member n xs ≡ true → P n) → P n
      go true q e ih = rw (eqb-true n x q) h.0
      go false q e ih = ih e

  pub each_insert : (n : ℕ) (xs : List ℕ) → P n → Each P xs → Each P (insert n xs)
  each_insert n [] p h = (p, tt)
  each_insert n (x ∷ xs) p h = go (leb n x) (each_insert n xs p h.1)
    where
      go : (b : Bool) → Each P (insert n xs) → Each P (cond b (n ∷ x ∷ xs) (x ∷ insert n xs))
      go true k = (p, h)
      go false k = (h.0, k)

  pub each_sort : (xs : List ℕ) → Each P xs → Each P (sort xs)
  each_sort [] h = tt
  each_sort (x ∷ xs) h = each_insert x (sort xs) h.0 (each_sort xs h.1)

  pub each_once : (xs : List ℕ) → Each P xs → Each P (once xs)
  each_once [] h = tt
  each_once (x ∷ xs) h = go (member x xs) (each_once xs h.1)
    where
      go : (b : Bool) → Each P (once xs) → Each P (cond b (once xs) (x ∷ once xs))
      go true k = k
      go false k = (h.0, k)
