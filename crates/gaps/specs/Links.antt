-- The gap rows by row numbers: what the loops over lanes and links write. proofs/ has them as the model's gap
-- rows. Definitions only.
use Rattle.std.specs.Prelude.{Bool, true, not, ◌&&◌, List, [], ◌∷◌, ℕ, suc, ◌+◌, ◌*◌, ◌-◌, ◌/◌, ◌<◌, T, eqb}
use Rattle.std.specs.Prelude.{Float, length, get_or}
use Rattle.std.specs.Float.Ieee.{is_nan}
use Rattle.geometry.specs.declared.gap.Decision.{Decision}
use Rattle.geometry.specs.declared.gap.Decision.TheVariants.{Passed, Wide}
use Rattle.geometry.specs.Edges.{ends_at}
use Rattle.geometry.specs.declared.gap.Seen.{Seen}
use Rattle.geometry.specs.Gap.{closest_ends, place_bits, row_bits, seen_of}
use Rattle.model.specs.Lists.{every}
use Rattle.model.specs.Tables.{direction_of, lanes_in}
use Rattle.model.specs.Rules.{climbs, borne}
use Rattle.words.specs.Rows.{joined, last_of}
use Rattle.words.specs.Keys.{is_id}

-- lane row, successor row, gap bits and the bits of the two places; no word where the gap is passed
abbrev pub row_with : ℕ → ℕ → (u v : Float) → List ℕ → List ℕ
row_with lane next u v [] = []
row_with lane next u v (b ∷ bs) = lane ∷ next ∷ b ∷ place_bits u ∷ place_bits v ∷ []

-- the row of what is seen of a link
abbrev pub row_of : ℕ → ℕ → Seen → List ℕ
row_of lane next seen = row_with lane next seen.u seen.v (row_bits seen.decision)

-- a width that has bits of its own
abbrev pub is_number : Decision → Bool
is_number Passed = true
is_number (Wide w) = not (is_nan w)

-- what is seen of a link is in numbers, so that width and places have bits of their own
pub record Numbers (seen : Seen) : Type 0 where
  pub width : T (is_number seen.decision)
  pub u : T (not (is_nan seen.u))
  pub v : T (not (is_nan seen.v))

-- the row of the lane that bears identity k
abbrev pub row_bearing : List ℕ → ℕ → ℕ
row_bearing lanes k = last_of (length lanes / 10) (is_id lanes k) - 1

-- the decision for a link from the lane in row i to that in row r, and where the two come closest
unfoldable pub seen_at : List ℕ → List Float → ℕ → ℕ → Seen
seen_at lanes edges i r =
    seen_of (closest_ends (ends_at edges i) (direction_of (get_or lanes (i * 10 + 5) 0)) (ends_at edges r)
    (direction_of (get_or lanes (r * 10 + 5) 0)))

-- the words of a link from the lane in row i to the lane of identity k
unfoldable pub link_row : List ℕ → List Float → ℕ → ℕ → List ℕ
link_row lanes edges i k = row_of i (row_bearing lanes k) (seen_at lanes edges i (row_bearing lanes k))

-- the words of the first n links of the lane in row i, whose identities stand from place a on
unfoldable pub lane_rows : List ℕ → List Float → List ℕ → ℕ → ℕ → ℕ → List ℕ
lane_rows lanes edges ids i a n = joined n (λ k. link_row lanes edges i (get_or ids (a + k) 0))

-- those of all its links
unfoldable pub rows_at : List ℕ → List Float → (offsets ids : List ℕ) → ℕ → List ℕ
rows_at lanes edges offsets ids i =
    lane_rows lanes edges ids i (get_or offsets i 0) (get_or offsets (i + 1) 0 - get_or offsets i 0)

-- those of the first n lanes
unfoldable pub rows_below : List ℕ → List Float → (offsets ids : List ℕ) → ℕ → List ℕ
rows_below lanes edges offsets ids n = joined n (rows_at lanes edges offsets ids)

-- rule 11, over what it reads
abbrev pub lists_right : (lanes offsets ids : List ℕ) → Bool
lists_right lanes offsets ids =
    eqb (length offsets) (suc (length lanes / 10)) && climbs (length ids) offsets && every
    (borne (lanes_in lanes)) ids

-- does a lane bear identity k?
abbrev pub is_borne : List ℕ → ℕ → Type 0
is_borne lanes k = 0 < last_of (length lanes / 10) (is_id lanes k)
