-- Laws of the lists and optional values of the model (its specs/Lists.antt): each function over append, reverse
-- and map.
use mathlib.Core.Path.{◌≡◌, refl, sym, ap, ◌∙◌, ap₂}
use mathlib.Core.Bool.{Bool, true, false, not, cond}
use mathlib.Core.Option.{Option, none, some}
use mathlib.Core.List.{List, [], ◌∷◌, ◌++◌, map, reverse, reverse-cons, map-append}
use Prim.Native.Nat.{ℕ, ◌+◌}
use native.Mathlib.Omega.{arith}
use lib.Dec.{eqb}
use lib.ListN.{length, length-append}
use borrow.Author.Tests.{eqb-true, eq-eqb}
use Rattle.model.specs.Lists.{◌⊕◌, final, first, gather, head_or, is_some, keep, last_or, map_o, or_else, pick, some?}
use Rattle.laws.proofs.Valid.{Each}

-- marks
pub ⊕-assoc : (a b c : Bool) → a ⊕ (b ⊕ c) ≡ (a ⊕ b) ⊕ c
⊕-assoc false b c = refl
⊕-assoc true false c = refl
⊕-assoc true true false = refl
⊕-assoc true true true = refl

pub ⊕-comm : (a b : Bool) → a ⊕ b ≡ b ⊕ a
⊕-comm false false = refl
⊕-comm false true = refl
⊕-comm true false = refl
⊕-comm true true = refl

pub ⊕-self : (a b : Bool) → a ⊕ (a ⊕ b) ≡ b
⊕-self false b = refl
⊕-self true false = refl
⊕-self true true = refl

pub ⊕-not : (a b : Bool) → a ⊕ not b ≡ not (a ⊕ b)
⊕-not false b = refl
⊕-not true b = refl

-- two tests are one where each gives the other
pub bool_ext : (a b : Bool) → (a ≡ true → b ≡ true) → (b ≡ true → a ≡ true) → a ≡ b
bool_ext false false f g = refl
bool_ext false true f g = g refl
bool_ext true false f g = sym (f refl)
bool_ext true true f g = refl

-- nothing is not something
pub no_some : {A : Type 0} (a : A) → Path (Option A) none (some a) → ⊥
no_some a q = let z : ◌≡◌ {A = ℕ} 0 1 = cc in omega arith

module _ {A : Type 0} where
  pub pick_twice : (a b : Bool) (x y : A) → pick b (pick a x y) (pick a y x) ≡ pick (a ⊕ b) x y
  pick_twice false false x y = refl
  pick_twice false true x y = refl
  pick_twice true false x y = refl
  pick_twice true true x y = refl

  pub pick_end : (f : Bool → A) (m e : Bool) → pick e (f m) (f (not m)) ≡ f (m ⊕ e)
  pick_end f false false = refl
  pick_end f false true = refl
  pick_end f true false = refl
  pick_end f true true = refl

  pub or_else_none : (o : Option A) → or_else o none ≡ o
  or_else_none none = refl
  or_else_none (some a) = refl

  pub or_else_assoc : (a b c : Option A) → or_else (or_else a b) c ≡ or_else a (or_else b c)
  or_else_assoc none b c = refl
  or_else_assoc (some a) b c = refl

  pub cond_or_else : (b : Bool) (x : A) (o : Option A) → cond b (some x) o ≡ or_else (cond b (some x) none) o
  cond_or_else true x o = refl
  cond_or_else false x o = refl

  pub first_append : (p : A → Bool) (xs ys : List A) → first p (xs ++ ys) ≡ or_else (first p xs) (first p ys)
  first_append p [] ys = refl
  first_append p (x ∷ xs) ys = go (p x) (first_append p xs ys)
    where
      go : (b : Bool) → first p (xs ++ ys) ≡ or_else (first p xs) (first p ys)
          → cond b (some x) (first p (xs ++ ys)) ≡ or_else (cond b (some x) (first p xs)) (first p ys)
      go true h = refl
      go false h = h

  pub final_append : (p : A → Bool) (xs ys : List A) → final p (xs ++ ys) ≡ or_else (final p ys) (final p xs)
  final_append p [] ys = sym (or_else_none (final p ys))
  final_append p (x ∷ xs) ys =
      rw (final_append p xs ys) (or_else_assoc (final p ys) (final p xs) (cond (p x) (some x) none))

  pub first_reverse : (p : A → Bool) (xs : List A) → first p (reverse xs) ≡ final p xs
  first_reverse p [] = refl
  first_reverse p (x ∷ xs) = rw (reverse-cons x xs, first_append p (reverse xs) (x ∷ []), first_reverse p xs)

  pub final_reverse : (p : A → Bool) (xs : List A) → final p (reverse xs) ≡ first p xs
  final_reverse p [] = refl
  final_reverse p (x ∷ xs) =
      rw (reverse-cons x xs, final_append p (reverse xs) (x ∷ []), final_reverse p xs)
      (sym (cond_or_else (p x) x (first p xs)))

  pub first_ext : (p q : A → Bool) (xs : List A) → Each (λ x. p x ≡ q x) xs → first p xs ≡ first q xs
  first_ext p q [] h = refl
  first_ext p q (x ∷ xs) h = rw (h.0, first_ext p q xs h.1)

  pub final_ext : (p q : A → Bool) (xs : List A) → Each (λ x. p x ≡ q x) xs → final p xs ≡ final q xs
  final_ext p q [] h = refl
  final_ext p q (x ∷ xs) h = rw (h.0, final_ext p q xs h.1)

  pub keep_ext : (p q : A → Bool) (xs : List A) → Each (λ x. p x ≡ q x) xs → keep p xs ≡ keep q xs
  keep_ext p q [] h = refl
  keep_ext p q (x ∷ xs) h = rw (h.0, keep_ext p q xs h.1)

  pub some?_ext : (p q : A → Bool) (xs : List A) → Each (λ x. p x ≡ q x) xs → some? p xs ≡ some? q xs
  some?_ext p q [] h = refl
  some?_ext p q (x ∷ xs) h = rw (h.0, some?_ext p q xs h.1)

  pub first_holds : (p : A → Bool) (xs : List A) (a : A) → first p xs ≡ some a → p a ≡ true
  first_holds p [] a q = absurd (no_some a q)
  first_holds p (x ∷ xs) a q = go (p x) refl q (first_holds p xs a)
    where
      go : (b : Bool) → p x ≡ b → cond b (some x) (first p xs) ≡ some a → (first p xs ≡ some a → p a ≡ true)
          → p a ≡ true
      go true e q ih = let k : x ≡ a = cc in rw k at e
      go false e q ih = ih q

  pub head_or_append : (d : A) (xs ys : List A) → head_or d (xs ++ ys) ≡ head_or (head_or d ys) xs
  head_or_append d [] ys = refl
  head_or_append d (x ∷ xs) ys = refl

  pub last_or_append : (d : A) (xs ys : List A) → last_or d (xs ++ ys) ≡ last_or (last_or d xs) ys
  last_or_append d [] ys = refl
  last_or_append d (x ∷ xs) ys = last_or_append x xs ys

  pub head_or_reverse : (d : A) (xs : List A) → head_or d (reverse xs) ≡ last_or d xs
  head_or_reverse d [] = refl
  head_or_reverse d (x ∷ xs) = rw (reverse-cons x xs, head_or_append d (reverse xs) (x ∷ [])) (head_or_reverse x xs)

  pub last_or_reverse : (d : A) (xs : List A) → last_or d (reverse xs) ≡ head_or d xs
  last_or_reverse d [] = refl
  last_or_reverse d (x ∷ xs) = rw (reverse-cons x xs, last_or_append d (reverse xs) (x ∷ []))

  pub keep_append : (p : A → Bool) (xs ys : List A) → keep p (xs ++ ys) ≡ keep p xs ++ keep p ys
  keep_append p [] ys = refl
  keep_append p (x ∷ xs) ys = go (p x) (keep_append p xs ys)
    where
      go : (b : Bool) → keep p (xs ++ ys) ≡ keep p xs ++ keep p ys
          → cond b (x ∷ keep p (xs ++ ys)) (keep p (xs ++ ys)) ≡ cond b (x ∷ keep p xs) (keep p xs) ++ keep p ys
      go true h = ap (λ (l : List A). x ∷ l) h
      go false h = h

module _ {A B : Type 0} where
  pub map_o_is_some : (f : A → B) (o : Option A) → is_some (map_o f o) ≡ is_some o
  map_o_is_some f none = refl
  map_o_is_some f (some a) = refl

  pub map_o_cond : (f : A → B) (b : Bool) (x y : Option A) → map_o f (cond b x y) ≡ cond b (map_o f x) (map_o f y)
  map_o_cond f true x y = refl
  map_o_cond f false x y = refl

  pub map_o_or_else : (f : A → B) (a b : Option A) → map_o f (or_else a b) ≡ or_else (map_o f a) (map_o f b)
  map_o_or_else f none b = refl
  map_o_or_else f (some a) b = refl

  pub map_cond : (f : A → B) (b : Bool) (x y : List A) → map f (cond b x y) ≡ cond b (map f x) (map f y)
  map_cond f true x y = refl
  map_cond f false x y = refl

  pub first_map_lem : (f : A → B) (p : B → Bool) (xs : List A) → first p (map f xs) ≡ map_o f (first (λ x. p (f x)) xs)
  first_map_lem f p [] = refl
  first_map_lem f p (x ∷ xs) =
      rw (first_map_lem f p xs) (sym (map_o_cond f (p (f x)) (some x) (first (λ x. p (f x)) xs)))

  pub final_map : (f : A → B) (p : B → Bool) (xs : List A) → final p (map f xs) ≡ map_o f (final (λ x. p (f x)) xs)
  final_map f p [] = refl
  final_map f p (x ∷ xs) =
      rw (
        final_map f p xs,
        map_o_or_else f (final (λ x. p (f x)) xs) (cond (p (f x)) (some x) none),
        map_o_cond f (p (f x)) (some x) none,
      )

  pub keep_map : (f : A → B) (p : B → Bool) (xs : List A) → keep p (map f xs) ≡ map f (keep (λ x. p (f x)) xs)
  keep_map f p [] = refl
  keep_map f p (x ∷ xs) =
      rw (keep_map f p xs) (sym (map_cond f (p (f x)) (x ∷ keep (λ x. p (f x)) xs) (keep (λ x. p (f x)) xs)))

  pub some?_map : (f : A → B) (p : B → Bool) (xs : List A) → some? p (map f xs) ≡ some? (λ x. p (f x)) xs
  some?_map f p [] = refl
  some?_map f p (x ∷ xs) = rw (some?_map f p xs)

  pub last_or_map : (f : A → B) (d : A) (xs : List A) → last_or (f d) (map f xs) ≡ f (last_or d xs)
  last_or_map f d [] = refl
  last_or_map f d (x ∷ xs) = last_or_map f x xs

  pub reverse_map_lem : (f : A → B) (xs : List A) → reverse (map f xs) ≡ map f (reverse xs)
  reverse_map_lem f [] = refl
  reverse_map_lem f (x ∷ xs) =
      rw
      (reverse-cons (f x) (map f xs), reverse_map_lem f xs, reverse-cons x xs, map-append f (reverse xs) (x ∷ []))

  pub map_ext : (f g : A → B) (xs : List A) → Each (λ x. f x ≡ g x) xs → map f xs ≡ map g xs
  map_ext f g [] h = refl
  map_ext f g (x ∷ xs) h = rw (h.0, map_ext f g xs h.1)

  pub gather_ext : (f g : A → List B) (xs : List A) → Each (λ x. f x ≡ g x) xs → gather f xs ≡ gather g xs
  gather_ext f g [] h = refl
  gather_ext f g (x ∷ xs) h = rw (h.0, gather_ext f g xs h.1)

  pub length_gather : (f g : A → List B) (xs : List A) → Each (λ x. length (f x) ≡ length (g x)) xs
      → length (gather f xs) ≡ length (gather g xs)
  length_gather f g [] h = refl
  length_gather f g (x ∷ xs) h =
      length-append (f x) (gather f xs)
      ∙ ap₂ (λ a b. a + b) h.0 (length_gather f g xs h.1)
      ∙ sym (length-append (g x) (gather g xs))

module _ {A B C : Type 0} where
  pub gather_map : (f : A → B) (g : B → List C) (xs : List A) → gather g (map f xs) ≡ gather (λ x. g (f x)) xs
  gather_map f g [] = refl
  gather_map f g (x ∷ xs) = rw (gather_map f g xs)

  pub map_gather : (f : A → List B) (g : B → C) (xs : List A) → map g (gather f xs) ≡ gather (λ x. map g (f x)) xs
  map_gather f g [] = refl
  map_gather f g (x ∷ xs) = rw (map-append g (f x) (gather f xs), map_gather f g xs)

pub map_id : {A : Type 0} (f : A → A) (xs : List A) → Each (λ x. f x ≡ x) xs → map f xs ≡ xs
map_id f [] h = refl
map_id f (x ∷ xs) h = rw (h.0, map_id f xs h.1)

-- the tests of two numbers on which a map is one to one
pub eqb_ext : (a b c d : ℕ) → (a ≡ b → c ≡ d) → (c ≡ d → a ≡ b) → eqb a b ≡ eqb c d
eqb_ext a b c d f g =
    bool_ext (eqb a b) (eqb c d) (λ e. eq-eqb c d (f (eqb-true a b e))) (λ e. eq-eqb a b (g (eqb-true c d e)))
