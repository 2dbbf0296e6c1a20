-- Lists compared element by element.
use mathlib.Core.Path.{◌≡◌, refl, sym, subst}
use mathlib.Core.List.Memᴰ
use mathlib.Core.List.{List, [], ◌∷◌, map}
use mathlib.Core.Logic.{◌⊎◌, inl, inr}
use Rattle.meaning.specs.Meaning.{◌∈◌}
use Rattle.meaning.specs.Implied.{Pairwise}

module _ {A B : Type 0} (R : A → B → Type 0) where
  -- the element that stands in the same place of the first list
  pub pair_left : {y : B} (xs : List A) (ys : List B) → Pairwise R xs ys → y ∈ ys → (x : A) × (x ∈ xs) × R x y
  pair_left [] [] pairs inside = absurd (Memᴰ.not-nil inside)
  pair_left [] (z ∷ zs) pairs inside = absurd pairs
  pair_left (x ∷ xs) [] pairs inside = absurd pairs
  pair_left {y} (x ∷ xs) (z ∷ zs) pairs inside = one (Memᴰ.cases_cons inside) (pair_left xs zs pairs.1)
    where
      one : (y ≡ z) ⊎ (y ∈ zs) → (y ∈ zs → (x : A) × (x ∈ xs) × R x y) → (u : A) × (u ∈ (x ∷ xs)) × R u y
      one (inl same) later = (x, Memᴰ.head refl, subst (R x) (sym same) pairs.0)
      one (inr inside) later = let found = later inside in (found.0, Memᴰ.tail found.1, found.2)

pub pairs_same : {A : Type 0} (R : A → A → Type 0) → ((x : A) → R x x) → (xs : List A) → Pairwise R xs xs
pairs_same R same-has [] = tt
pairs_same R same-has (x ∷ xs) = (same-has x, pairs_same R same-has xs)

pub pairs_map : {A B : Type 0} (R : A → B → Type 0) (f : A → B) → ((x : A) → R x (f x)) → (xs : List A) →
    Pairwise R xs (map f xs)
pairs_map R f each-has [] = tt
pairs_map R f each-has (x ∷ xs) = (each-has x, pairs_map R f each-has xs)

pub pairs_trans : {A B C : Type 0} (R : A → B → Type 0) (S : B → C → Type 0) (T : A → C → Type 0) (xs : List A)
    (ys : List B) (zs : List C) → ((x : A) (y : B) (z : C) → x ∈ xs → R x y → S y z → T x z) → Pairwise R xs ys →
    Pairwise S ys zs → Pairwise T xs zs
pairs_trans R S T [] [] [] join first-pairs second-pairs = tt
pairs_trans R S T [] [] (z ∷ zs) join first-pairs second-pairs = absurd second-pairs
pairs_trans R S T [] (y ∷ ys) zs join first-pairs second-pairs = absurd first-pairs
pairs_trans R S T (x ∷ xs) [] zs join first-pairs second-pairs = absurd first-pairs
pairs_trans R S T (x ∷ xs) (y ∷ ys) [] join first-pairs second-pairs = absurd second-pairs
pairs_trans R S T (x ∷ xs) (y ∷ ys) (z ∷ zs) join first-pairs second-pairs = (
  join x y z (Memᴰ.head refl) first-pairs.0 second-pairs.0,
  pairs_trans R S T xs ys zs (λ u v w inside. join u v w (Memᴰ.tail inside)) first-pairs.1 second-pairs.1,
)

pub pairs_weaken : {A B : Type 0} (R S : A → B → Type 0) → ((x : A) (y : B) → R x y → S x y) → (xs : List A)
    (ys : List B) → Pairwise R xs ys → Pairwise S xs ys
pairs_weaken R S weaker [] [] pairs = tt
pairs_weaken R S weaker [] (y ∷ ys) pairs = absurd pairs
pairs_weaken R S weaker (x ∷ xs) [] pairs = absurd pairs
pairs_weaken R S weaker (x ∷ xs) (y ∷ ys) pairs = (weaker x y pairs.0, pairs_weaken R S weaker xs ys pairs.1)
