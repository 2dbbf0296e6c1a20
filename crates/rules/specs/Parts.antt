-- Parts of a table that follow one another, by row numbers. Definitions only.
use Rattle.std.specs.Prelude.{◌≡◌, List, ℕ, ◌+◌, ◌*◌, ◌/◌, ◌<◌, length, get_or}
use Rattle.words.specs.Rows.{total}

-- the counts of the parts of a table with w words a row
abbrev pub counts : (w kc : ℕ) → List ℕ → ℕ → ℕ
counts w kc ws i = get_or ws (i * w + kc) 0

-- its parts follow one another, to row n of the table that they are of
pub record Fit (w kf kc : ℕ) (ws : List ℕ) (n : ℕ) : Type 0 where
  pub begins : (r : ℕ) → r < length ws / w → get_or ws (r * w + kf) 0 ≡ total r (counts w kc ws)
  pub whole : total (length ws / w) (counts w kc ws) ≡ n
