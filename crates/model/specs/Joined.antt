-- "The Rust's list is both calls' warnings joined junction by junction": the warnings of reading and of repair as
-- `junctions` of links.rs gives them, and before them those of the targets, which the Rust has none of. Definitions
-- only.
use Rattle.std.specs.Prelude.{Bool, not, cond, List, [], ◌∷◌, ◌++◌, ℕ, suc, eqb}
use Rattle.model.specs.Lists.{is_some, keep}
use Rattle.model.specs.Rows.{table, word}
use Rattle.model.specs.Tables.{name_in}
use Rattle.model.specs.Calls.{warning_width}
use Rattle.model.specs.Reading.{RawTables, raw_junction, junction_rows}

-- is a warning row repair's? It has 3 in its first word, and those of reading have 1, 2 or 4
abbrev pub is_repairs : List ℕ → Bool
is_repairs w = eqb (word w 0) 3

abbrev pub is_readings : List ℕ → Bool
is_readings w = not (is_repairs w)

-- the warning rows of a junction row, which is their second word
abbrev pub warned_at : ℕ → List (List ℕ) → List (List ℕ)
warned_at j ws = keep (λ w. eqb (word w 1) j) ws

-- read: the rows of reading, which name junctions by their raw row; repaired: those of repair on what reading
-- wrote, which name them by their row there
module _ (t : RawTables) (read repaired : List (List ℕ)) where
  -- the raw junctions by row, and k the row that the next of them with an id became: "a junction without id gives
  -- no row"
  abbrev pub joined_from : ℕ → List ℕ → List (List ℕ)
  joined_from k [] = []
  joined_from k (j ∷ js) = warned_at j read ++ cond (is_some (name_in (raw_junction t j) 0))
      (warned_at k repaired ++ joined_from (suc k) js)
      (joined_from k js)

-- THE RUST'S LIST, from the warnings that the calls wrote; those of the targets "come first, in that order"
unfoldable pub joined_warnings : RawTables → (targets read repaired : List ℕ) → List (List ℕ)
joined_warnings t targets read repaired =
    table warning_width targets
    ++ joined_from t (table warning_width read) (table warning_width repaired) 0 (junction_rows t)
