-- Corner cases of list lookup and of a name's bytes, each worked out by antt.
use mathlib.Core.Path.{◌≡◌, refl}
use mathlib.Core.Bool.{true, false}
use mathlib.Core.List.{List, [], ◌∷◌}
use Prim.Native.Nat.{ℕ}
use Rattle.model.specs.Lookup.{list_lookup, list_part, row_listed}
use Rattle.model.specs.Records.{Span}
use Rattle.model.specs.Tables.{absent_start}
use Rattle.model.specs.Text.{bytes_of, name_bytes, placed, same_in}

-- lists of three lanes: 5 and 6, none, 7
abbrev offsets : List ℕ
offsets = 0 ∷ 2 ∷ 2 ∷ 3 ∷ []

abbrev ids : List ℕ
ids = 5 ∷ 6 ∷ 7 ∷ []

-- "for a lane row .. a part of the lent identities": each row's part, and the row outside
pub row_part : (list_part offsets ids 0 ≡ 5 ∷ 6 ∷ [])
    × (list_part offsets ids 1 ≡ [])
    × (list_part offsets ids 2 ≡ 7 ∷ [])
    × (list_part offsets ids 3 ≡ [])
    × (list_part [] ids 0 ≡ [])
unfolding list_part row_listed
row_part = (refl, refl, refl, refl, refl)

-- "its two offsets falling or passing the end, gives the empty part": of the row concerned alone; an offset at
-- the end does not pass it
pub bad_offsets : (list_part (0 ∷ 2 ∷ 1 ∷ 3 ∷ []) ids 1 ≡ []) × (list_part (0 ∷ 2 ∷ 1 ∷ 3 ∷ []) ids 2 ≡ 6 ∷ 7 ∷ [])
    × (list_part (0 ∷ 4 ∷ []) ids 0 ≡ []) × (list_part (0 ∷ 3 ∷ []) ids 0 ≡ ids)
unfolding list_part row_listed
bad_offsets = (refl, refl, refl, refl)

-- "the lanes onward or the lanes before"
pub either_direction : (list_lookup offsets ids (0 ∷ 1 ∷ []) (9 ∷ []) 0 false ≡ 5 ∷ 6 ∷ [])
    × (list_lookup offsets ids (0 ∷ 1 ∷ []) (9 ∷ []) 0 true ≡ 9 ∷ [])
    × (list_lookup offsets ids (0 ∷ 1 ∷ []) (9 ∷ []) 2 true ≡ [])
unfolding list_lookup list_part row_listed
either_direction = (refl, refl, refl)

-- ---- names in the text "abab"
abbrev abab : List ℕ
abab = 97 ∷ 98 ∷ 97 ∷ 98 ∷ []

abbrev at : ℕ → ℕ → Span
at start size = record { start = start; size = size }

-- "a name's bytes are handed back as a part of the text": a name, up to the end of the text, and the whole text
pub name_bytes_lem : (name_bytes abab (at 1 2) ≡ 98 ∷ 97 ∷ [])
    × (name_bytes abab (at 3 1) ≡ 98 ∷ [])
    × (name_bytes abab (at 0 4) ≡ abab)
unfolding bytes_of name_bytes placed
name_bytes_lem = (refl, refl, refl)

-- "(empty for an absent or misplaced name)": past the end by its length, by its start, and the absent name
pub no_bytes : (name_bytes abab (at 3 2) ≡ [])
    × (name_bytes abab (at 5 1) ≡ [])
    × (name_bytes abab (at absent_start 0) ≡ [])
unfolding bytes_of name_bytes placed
no_bytes = (refl, refl, refl)

-- a name of length 0 lies in the text up to its end and not past it, and the absent name does not
pub empty_name : (name_bytes abab (at 4 0) ≡ [])
    × (placed abab (at 4 0) ≡ true)
    × (placed abab (at 5 0) ≡ false)
    × (placed abab (at absent_start 0) ≡ false)
unfolding bytes_of name_bytes placed
empty_name = (refl, refl, refl, refl)

-- "Names are equal when their bytes are", at whatever place
pub equal_by_bytes : (same_in abab (at 0 2) (at 2 2) ≡ true)
    × (same_in abab (at 0 1) (at 1 1) ≡ false)
    × (same_in abab (at 0 2) (at 0 1) ≡ false)
    × (same_in abab (at 0 1) (at 0 2) ≡ false) × (same_in abab (at 0 0) (at 4 0) ≡ true)
unfolding bytes_of same_in
equal_by_bytes = (refl, refl, refl, refl, refl)
