-- Two lists whose elements stand to one another in pairs: in the same order, or in any order. Definitions only.
use Rattle.std.specs.Prelude.{◌≡◌, List, [], ◌∷◌, ◌++◌}
use Rattle.std.proofs.Math.Option.{Option, none, some}

-- R: how an element of the first stands to one of the second
module _ {A B : Type 0} (R : A → B → Type 0) where
  -- both are absent, or both are there and R holds of them
  pub data BothOrNone : Option A → Option B → Type 0 where
    neither : BothOrNone none none
    both : {x : A} {y : B} → R x y → BothOrNone (some x) (some y)

  -- in the same order: R of the two first, of the two second, and so on to the end of both
  pub data InOrder : List A → List B → Type 0 where
    ended : InOrder [] []
    paired : {x : A} {xs : List A} {y : B} {ys : List B} → R x y → InOrder xs ys → InOrder (x ∷ xs) (y ∷ ys)

  -- in any order: R of the first and of one somewhere among the others, and so on for the rest and those others
  pub data InAnyOrder : List A → List B → Type 0 where
    emptied : InAnyOrder [] []
    among : {x : A} {xs : List A} {y : B} (before after : List B) → R x y → InAnyOrder xs (before ++ after) →
        InAnyOrder (x ∷ xs) (before ++ (y ∷ after))

-- the same collection: the same elements, each as often, in any order
abbrev pub SameCollection : {A : Type 0} → List A → List A → Type 0
SameCollection {A} xs ys = InAnyOrder (λ (x y : A). x ≡ y) xs ys
