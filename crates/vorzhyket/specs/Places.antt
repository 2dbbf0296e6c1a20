-- Where a part lies, as two words: its first index and its count. Definitions only.
use Rattle.std.specs.Prelude.{Bool, not, List, [], ◌∷◌, ℕ, zero, suc, eqb, length}
use Rattle.model.specs.Lists.{pick}
use Rattle.model.specs.Lookup.{list_part}
use Rattle.model.specs.Rows.{part, word}
use Rattle.model.specs.Text.{name_bytes}
use Rattle.words.specs.Rows.{span}

-- first index and count, and 0, 0 for an empty part
abbrev pub place_of : (first count : ℕ) → List ℕ
place_of first zero = 0 ∷ 0 ∷ []
place_of first (suc n) = first ∷ suc n ∷ []

-- what a place names
abbrev pub part_at : {A : Type 0} → List ℕ → List A → List A
part_at place xs = part (word place 0) (word place 1) xs

-- a row's list begins at the row's offset
unfoldable pub list_place : (offsets ids : List ℕ) → ℕ → List ℕ
list_place offsets ids row = place_of (word offsets row) (length (list_part offsets ids row))

-- 0 asks the lanes onward, anything else the lanes before
abbrev pub asks_before : ℕ → Bool
asks_before before = not (eqb before 0)

-- the place of a lane's list among the identities that are asked
unfoldable pub lookup_place : (successor_offsets successor_ids predecessor_offsets predecessor_ids : List ℕ) → ℕ → Bool
    → List ℕ
lookup_place so si po pi row before = pick before (list_place so si row) (list_place po pi row)

-- a name's bytes begin at the name's start
unfoldable pub name_place : List ℕ → (start size : ℕ) → List ℕ
name_place text start size = place_of start (length (name_bytes text (span start size)))
