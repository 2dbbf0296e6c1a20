-- Hash chains over the rows of a table: heads has a word for each bucket, next one for each row. A word is 0,
-- or a row plus 1.
-- `hash r` is the bucket of row r, whatever the key is.
use Rattle.std.specs.Prelude.{ℕ, suc, ◌<◌, ◌≡◌, List, Bool, true, Option, Some, None, length, get_or, eqb}
use Rattle.words.specs.Rows.{last_of}

-- whether row r is in bucket b
abbrev pub within : (ℕ → ℕ) → ℕ → ℕ → Bool
within hash b r = eqb (hash r) b

-- arrays of the right lengths, with every bucket empty
pub record Empty (heads next : List ℕ) : Type 0 where
  pub buckets : length heads ≡ 16384
  pub rows : length next ≡ 16384
  pub clear : (b : ℕ) → b < length heads → get_or heads b 0 ≡ 0

-- the chains of the rows below n: a bucket leads to its last row, and a row to the one before it in its bucket
pub record Chained (hash : ℕ → ℕ) (n : ℕ) (heads next : List ℕ) : Type 0 where
  pub head : (b : ℕ) → b < length heads → get_or heads b 0 ≡ last_of n (within hash b)
  pub link : (r : ℕ) → r < n → get_or next r 0 ≡ last_of r (within hash (hash r))

-- a row as a word holds it: plus 1, and 0 for none
abbrev pub stored : Option ℕ → ℕ
stored None = 0
stored (Some r) = suc r

-- every row of which p holds lies in bucket b
abbrev pub KeyIn : (ℕ → ℕ) → (ℕ → Bool) → ℕ → Type 0
KeyIn hash p b = (r : ℕ) → p r ≡ true → hash r ≡ b

-- a test answers p of each row below n
abbrev pub Decides : (ℕ → Bool → Type 0) → (ℕ → Bool) → ℕ → Type 0
Decides answers p n = (r : ℕ) (t : Bool) → r < n → answers r t → t ≡ p r

-- a test of two rows answers `same r` of each row q before r
abbrev pub Likens : (ℕ → ℕ → Bool → Type 0) → (ℕ → ℕ → Bool) → ℕ → Type 0
Likens answers same n = (q r : ℕ) (t : Bool) → q < r → r < n → answers q r t → t ≡ same r q

-- a function gives each row below n its bucket
abbrev pub Puts : (ℕ → ℕ → Type 0) → (ℕ → ℕ) → ℕ → Type 0
Puts answers hash n = (r b : ℕ) → r < n → answers r b → b ≡ hash r
