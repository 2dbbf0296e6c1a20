-- Laws of tests: && and || taken apart, and every, some? and distinct over the list functions of the model.
use mathlib.Core.Path.{◌≡◌, refl, sym, ◌∙◌, ap, ap₂}
use mathlib.Core.Bool.{Bool, true, false, not, ◌&&◌, ◌||◌, and_assoc, or_assoc, or_comm, or-false, false≢true}
use mathlib.Core.Bool.{true≢false, and_comm}
use mathlib.Core.List.{List, [], ◌∷◌, ◌++◌, map, reverse, reverse-cons}
use Rattle.model.specs.Lists.{distinct, every, gather, some?}
use Rattle.laws.proofs.Basics.{some?_ext, some?_map}
use Rattle.laws.proofs.ForEach.{each_map}
use Rattle.laws.proofs.Valid.{Each}

pub and_left : (a b : Bool) → a && b ≡ true → a ≡ true
and_left true b q = refl
and_left false b q = q

pub and_right : (a b : Bool) → a && b ≡ true → b ≡ true
and_right true b q = q
and_right false b q = absurd (false≢true q)

pub and_both : (a b : Bool) → a ≡ true → b ≡ true → a && b ≡ true
and_both a b p q = ap₂ (λ x y. x && y) p q

pub and_swap : (a b c : Bool) → (a && b) && c ≡ (a && c) && b
and_swap false b c = refl
and_swap true b c = and_comm b c

-- neither of two holds
pub or_left : (a b : Bool) → a || b ≡ false → a ≡ false
or_left true b q = q
or_left false b q = refl

pub or_right : (a b : Bool) → a || b ≡ false → b ≡ false
or_right true b q = absurd (true≢false q)
or_right false b q = q

-- the second of two holds
pub either_right : (a b : Bool) → b ≡ true → a || b ≡ true
either_right true b q = refl
either_right false b q = q

module _ {A : Type 0} where
  -- every as a test and as a fact
  pub every_each : (p : A → Bool) (xs : List A) → every p xs ≡ true → Each (λ x. p x ≡ true) xs
  every_each p [] h = tt
  every_each p (x ∷ xs) h = (and_left (p x) (every p xs) h, every_each p xs (and_right (p x) (every p xs) h))

  pub each_every : (p : A → Bool) (xs : List A) → Each (λ x. p x ≡ true) xs → every p xs ≡ true
  each_every p [] h = refl
  each_every p (x ∷ xs) h = and_both (p x) (every p xs) h.0 (each_every p xs h.1)

  pub every_ext : (p q : A → Bool) (xs : List A) → Each (λ x. p x ≡ q x) xs → every p xs ≡ every q xs
  every_ext p q [] h = refl
  every_ext p q (x ∷ xs) h = ap₂ (λ a b. a && b) h.0 (every_ext p q xs h.1)

  pub every_append : (p : A → Bool) (xs ys : List A) → every p (xs ++ ys) ≡ every p xs && every p ys
  every_append p [] ys = refl
  every_append p (x ∷ xs) ys =
      ap (λ b. p x && b) (every_append p xs ys) ∙ sym (and_assoc (p x) (every p xs) (every p ys))

  pub some?_append : (p : A → Bool) (xs ys : List A) → some? p (xs ++ ys) ≡ some? p xs || some? p ys
  some?_append p [] ys = refl
  some?_append p (x ∷ xs) ys =
      ap (λ b. p x || b) (some?_append p xs ys) ∙ sym (or_assoc (p x) (some? p xs) (some? p ys))

  pub some?_reverse : (p : A → Bool) (xs : List A) → some? p (reverse xs) ≡ some? p xs
  some?_reverse p [] = refl
  some?_reverse p (x ∷ xs) =
      rw (reverse-cons x xs, some?_append p (reverse xs) (x ∷ []), some?_reverse p xs, or-false (p x))
      (or_comm (some? p xs) (p x))

  pub distinct_ext : (P : A → Type 0) (p q : A → A → Bool) (xs : List A) → Each P xs
      → ((a b : A) → P a → P b → p a b ≡ q a b) → distinct p xs ≡ distinct q xs
  distinct_ext P p q [] h k = refl
  distinct_ext P p q (x ∷ xs) h k =
      ap₂ (λ a b. not a && b) (some?_ext (p x) (q x) xs (each_map (λ y w. k x y h.0 w) xs h.1))
      (distinct_ext P p q xs h.1 k)

module _ {A B : Type 0} where
  pub every_map : (f : A → B) (p : B → Bool) (xs : List A) → every p (map f xs) ≡ every (λ x. p (f x)) xs
  every_map f p [] = refl
  every_map f p (x ∷ xs) = ap (λ b. p (f x) && b) (every_map f p xs)

  pub every_gather : (p : B → Bool) (f : A → List B) (xs : List A)
      → every p (gather f xs) ≡ every (λ x. every p (f x)) xs
  every_gather p f [] = refl
  every_gather p f (x ∷ xs) = every_append p (f x) (gather f xs) ∙ ap (λ b. every p (f x) && b) (every_gather p f xs)

  pub distinct_map : (f : A → B) (q : B → B → Bool) (xs : List A)
      → distinct q (map f xs) ≡ distinct (λ a b. q (f a) (f b)) xs
  distinct_map f q [] = refl
  distinct_map f q (x ∷ xs) = ap₂ (λ a b. not a && b) (some?_map f (q (f x)) xs) (distinct_map f q xs)
