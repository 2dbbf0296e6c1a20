-- The lists of all lanes as offsets and packed identities, and "list lookup". Definitions only.
use Rattle.std.specs.Prelude.{Bool, ◌&&◌, cond, List, [], ◌∷◌, ℕ, suc, ◌+◌, ◌-◌, leb, ltb, length}
use Rattle.model.specs.Lists.{pick, gather}
use Rattle.model.specs.Rows.{part, word}

-- "offsets (lanes + 1 words, the first 0)": where each list begins, and where the last one ends
abbrev pub offsets_from : ℕ → List (List ℕ) → List ℕ
offsets_from k [] = k ∷ []
offsets_from k (l ∷ ls) = k ∷ offsets_from (k + length l) ls

-- "the identities packed in lane row order"
abbrev pub packed : List (List ℕ) → List ℕ
packed ls = gather (λ l. l) ls

-- the packed lists read back: the identities between an offset and the next
abbrev pub lists_after : List ℕ → ℕ → List ℕ → List (List ℕ)
lists_after ids o [] = []
lists_after ids o (p ∷ os) = part o (p - o) ids ∷ lists_after ids p os

abbrev pub lists_in : List ℕ → List ℕ → List (List ℕ)
lists_in [] ids = []
lists_in (o ∷ os) ids = lists_after ids o os

-- do the two offsets of a row stand in the list, and not fall or pass the end?
unfoldable pub row_listed : (offsets ids : List ℕ) → ℕ → Bool
row_listed offsets ids row =
    ltb (suc row) (length offsets) && leb (word offsets row) (word offsets (suc row))
    && leb (word offsets (suc row)) (length ids)

-- "A row outside the list, or its two offsets falling or passing the end, gives the empty part."
unfoldable pub list_part : (offsets ids : List ℕ) → ℕ → List ℕ
list_part offsets ids row =
    cond (row_listed offsets ids row) (part (word offsets row) (word offsets (suc row) - word offsets row) ids)
    []

-- "for a lane row and a direction, the lanes onward or the lanes before": true asks the lanes before
unfoldable pub list_lookup : (successor_offsets successor_ids predecessor_offsets predecessor_ids : List ℕ) → ℕ
    → Bool → List ℕ
list_lookup so si po pi row before = pick before (list_part so si row) (list_part po pi row)
