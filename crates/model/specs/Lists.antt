-- Lists, tests and optional values: the small vocabulary of the other files. Definitions only.
use Rattle.std.specs.Prelude.{Bool, true, false, not, ◌&&◌, ◌||◌, cond, List, [], ◌∷◌, ◌++◌, ℕ, suc, eqb, leb, ltb}
use Rattle.std.proofs.Math.Option.{Option, none, some}

infixr 36 ◌⊕◌
-- b turned over, where the mark is set
abbrev pub ◌⊕◌ : Bool → Bool → Bool
false ⊕ b = b
true ⊕ b = not b

module _ {A : Type 0} where
  -- of two values that belong to a start and an end, the one at the end that is asked for: false is the start
  abbrev pub pick : Bool → A → A → A
  pick false s e = s
  pick true s e = e

  -- the first of two that is there
  abbrev pub or_else : Option A → Option A → Option A
  or_else none b = b
  or_else (some a) b = some a

  -- is there a value?
  abbrev pub is_some : Option A → Bool
  is_some none = false
  is_some (some a) = true

  -- those that pass a test
  abbrev pub keep : (A → Bool) → List A → List A
  keep p [] = []
  keep p (x ∷ xs) = cond (p x) (x ∷ keep p xs) (keep p xs)

  -- the first that passes
  abbrev pub first : (A → Bool) → List A → Option A
  first p [] = none
  first p (x ∷ xs) = cond (p x) (some x) (first p xs)

  -- the last that passes
  abbrev pub final : (A → Bool) → List A → Option A
  final p [] = none
  final p (x ∷ xs) = or_else (final p xs) (cond (p x) (some x) none)

  -- does any pass?
  abbrev pub some? : (A → Bool) → List A → Bool
  some? p [] = false
  some? p (x ∷ xs) = p x || some? p xs

  -- do all pass?
  abbrev pub every : (A → Bool) → List A → Bool
  every p [] = true
  every p (x ∷ xs) = p x && every p xs

  -- is no element like a later one?
  abbrev pub distinct : (A → A → Bool) → List A → Bool
  distinct q [] = true
  distinct q (x ∷ xs) = not (some? (q x) xs) && distinct q xs

  -- the list with the first that passes changed
  abbrev pub amend : (A → Bool) → (A → A) → List A → List A
  amend p f [] = []
  amend p f (x ∷ xs) = cond (p x) (f x ∷ xs) (x ∷ amend p f xs)

  -- the first element, or d where there is none
  abbrev pub head_or : A → List A → A
  head_or d [] = d
  head_or d (x ∷ xs) = x

  -- the last element, or d where there is none
  abbrev pub last_or : A → List A → A
  last_or d [] = d
  last_or d (x ∷ xs) = last_or x xs

module _ {A B : Type 0} where
  -- f of the value, if there is one
  abbrev pub map_o : (A → B) → Option A → Option B
  map_o f none = none
  map_o f (some a) = some (f a)

  -- what f finds for the value, if there is one
  abbrev pub bind_o : Option A → (A → Option B) → Option B
  bind_o none f = none
  bind_o (some a) f = f a

  -- the list that f gives for the value; empty where there is none
  abbrev pub list_o : Option A → (A → List B) → List B
  list_o none f = []
  list_o (some a) f = f a

  -- the lists that f gives, joined
  abbrev pub gather : (A → List B) → List A → List B
  gather f [] = []
  gather f (x ∷ xs) = f x ++ gather f xs

-- n put in before the first that is not below it
abbrev pub insert : ℕ → List ℕ → List ℕ
insert n [] = n ∷ []
insert n (x ∷ xs) = cond (leb n x) (n ∷ x ∷ xs) (x ∷ insert n xs)

-- ascending, repeats kept
abbrev pub sort : List ℕ → List ℕ
sort [] = []
sort (x ∷ xs) = insert x (sort xs)

-- does n stand in the list?
abbrev pub member : ℕ → List ℕ → Bool
member n xs = some? (eqb n) xs

-- each number once: its last occurrence
abbrev pub once : List ℕ → List ℕ
once [] = []
once (x ∷ xs) = cond (member x xs) (once xs) (x ∷ once xs)

-- how often n stands in the list
abbrev pub count : ℕ → List ℕ → ℕ
count n [] = 0
count n (x ∷ xs) = cond (eqb n x) (suc (count n xs)) (count n xs)

-- strictly ascending
abbrev pub ascends : List ℕ → Bool
ascends [] = true
ascends (x ∷ xs) = every (ltb x) xs && ascends xs
