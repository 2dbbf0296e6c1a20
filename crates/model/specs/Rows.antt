-- Tables as rows of a fixed width, and parts given by first row and count. Definitions only.
use Rattle.std.specs.Prelude.{Bool, ◌&&◌, List, [], ◌∷◌, ◌++◌, ℕ, zero, suc, ◌+◌, ◌/◌, eqb, length, take, drop, get_or}

module _ {A : Type 0} where
  -- n rows of w words
  abbrev pub rows : ℕ → ℕ → List A → List (List A)
  rows w zero ws = []
  rows w (suc n) ws = take w ws ∷ rows w n (drop w ws)

  -- the rows of a table that has w words a row
  unfoldable pub table : ℕ → List A → List (List A)
  table w ws = rows w (length ws / w) ws

  -- a part: count rows from the first on
  abbrev pub part : ℕ → ℕ → List A → List A
  part first count xs = take count (drop first xs)

  -- an output after a call: the content, and then the words that it had
  unfoldable pub written : List A → List A → List A
  written content out = content ++ drop (length content) out

-- word k of a row
abbrev pub word : List ℕ → ℕ → ℕ
word r k = get_or r k 0

-- the rows of things that have parts in another table: each part begins where the one before it ends
abbrev pub rows_from : {X A : Type 0} → (ℕ → X → List ℕ) → (X → List A) → ℕ → List X → List ℕ
rows_from row f i [] = []
rows_from row f i (x ∷ xs) = row i x ++ rows_from row f (i + length (f x)) xs

-- "Parts of a table follow one another from row 0 and end with its last row": first row in word kf, count in word kc
abbrev pub parts_fit : ℕ → ℕ → ℕ → ℕ → List (List ℕ) → Bool
parts_fit kf kc i n [] = eqb i n
parts_fit kf kc i n (r ∷ rs) = eqb (word r kf) i && parts_fit kf kc (i + word r kc) n rs
