-- Rows by their numbers: what a loop over rows has seen, and what a writer has put. Definitions only.
use Rattle.std.specs.Prelude.{ℕ, zero, suc, ◌+◌, ◌*◌, List, [], ◌∷◌, ◌++◌, Bool, true, false, ◌&&◌, ◌||◌, cond, length}
use Rattle.std.specs.Prelude.{get_or, drop, take}
use Rattle.model.specs.Records.{Span}

-- does p hold of some number below n?
unfoldable pub any : ℕ → (ℕ → Bool) → Bool
any zero p = false
any (suc n) p = any n p || p n

-- does p hold of every number below n?
unfoldable pub all : ℕ → (ℕ → Bool) → Bool
all zero p = true
all (suc n) p = all n p && p n

-- the greatest number below n of which p holds, plus 1; 0 where there is none
unfoldable pub last_of : ℕ → (ℕ → Bool) → ℕ
last_of zero p = 0
last_of (suc n) p = cond (p n) (suc n) (last_of n p)

-- the sum of f below n
unfoldable pub total : ℕ → (ℕ → ℕ) → ℕ
total zero f = 0
total (suc n) f = total n f + f n

module _ {ℓ} {A : Type ℓ} where
  -- f 0, f 1, .. f (n - 1)
  unfoldable pub tab : ℕ → (ℕ → A) → List A
  tab zero f = []
  tab (suc n) f = tab n f ++ (f n ∷ [])

-- an output with a row put in place from word at on
unfoldable pub spliced : {B : Type 0} → ℕ → List B → List B → List B
spliced at row out = take at out ++ row ++ drop (at + length row) out

-- a name's place
abbrev pub span : ℕ → ℕ → Span
span s n = record { start = s; size = n }

-- the name at words a and a + 1 of a table
abbrev pub name_from : List ℕ → ℕ → Span
name_from ws a = span (get_or ws a 0) (get_or ws (a + 1) 0)

-- the name at word k of row r of a table with w words a row
abbrev pub name_at : ℕ → ℕ → List ℕ → ℕ → Span
name_at w k ws r = span (get_or ws (r * w + k) 0) (get_or ws (r * w + k + 1) 0)

-- row r of a table with w words a row, and all that follows it
abbrev pub from : ℕ → List ℕ → ℕ → List ℕ
from w ws r = drop (r * w) ws

-- f 0, f 1, .. f (n - 1), joined
unfoldable pub joined : {A : Type 0} → ℕ → (ℕ → List A) → List A
joined zero f = []
joined (suc n) f = joined n f ++ f n
