-- The words of the rows, from what the rows are made from. Definitions only.
use Rattle.std.specs.Prelude.{List, [], ℕ, ◌+◌, ◌-◌, ◌/◌, ◌≡◌, Float, Option, Some, None, length, get_or}
use Rattle.model.specs.Calls.{gap_width}
use Rattle.model.specs.Rows.{part, written}
use Rattle.gaps.specs.declared.links.Links.{Links}
use Rattle.gaps.specs.Links.{link_row, rows_at, rows_below}

-- a row, if there is one, has these words
abbrev pub Gives : Option (List ℕ) → List ℕ → Type 0
Gives None words = words ≡ []
Gives (Some row) words = (row ≡ words) × (length words ≡ gap_width)

-- made from these lanes, edges and lists
pub record Made (k : Links) (lanes : List ℕ) (edges : List Float) (offsets ids : List ℕ) : Type 0 where
  pub lanes_are : k.lanes.lanes.now ≡ lanes
  pub edges_are : k.edges.now ≡ edges
  pub offsets_are : k.lists.offsets.now ≡ offsets
  pub ids_are : k.lists.ids.now ≡ ids

-- how many lanes there are
abbrev pub lane_count : Links → ℕ
lane_count k = length k.lanes.lanes.now / 10

-- the identities of the successors of the lane in row i
abbrev pub next_ids : Links → ℕ → List ℕ
next_ids k i =
    part (get_or k.lists.offsets.now i 0) (get_or k.lists.offsets.now (i + 1) 0 - get_or k.lists.offsets.now i 0)
    k.lists.ids.now

-- the words of its link to the lane of an identity
abbrev pub link_words : Links → ℕ → ℕ → List ℕ
link_words k i id = link_row k.lanes.lanes.now k.edges.now i id

-- of all its links
abbrev pub words_at : Links → ℕ → List ℕ
words_at k i = rows_at k.lanes.lanes.now k.edges.now k.lists.offsets.now k.lists.ids.now i

-- of those of the first n lanes
abbrev pub words_below : Links → ℕ → List ℕ
words_below k n = rows_below k.lanes.lanes.now k.edges.now k.lists.offsets.now k.lists.ids.now n

-- words put at the front, and how many they are
pub record Put (words before after : List ℕ) (count : ℕ) : Type 0 where
  pub count_is : count ≡ length words
  pub words_are : after ≡ written words before
