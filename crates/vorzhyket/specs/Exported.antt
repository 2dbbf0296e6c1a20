-- What an exported function returns and leaves in `written`, in its outputs and in `out`. Definitions only.
use Rattle.std.specs.Prelude.{List, [], ◌∷◌, ℕ, ◌<◌, Float}
use Rattle.geometry.specs.Root as geometry
use Rattle.geometry.specs.declared.segment.Closest.{Closest}
use Rattle.model.specs.Calls.{Answer, Outcome, refused, wrote}
use Rattle.model.specs.Length.{Checked, fine, reported, uneven}

-- the number returned, and `written`, which held `before`: an accepted call returns 0 and leaves the rows written to
-- each output, a refusal returns its number and leaves `written` as it was
abbrev pub answered : Answer → List ℕ → ℕ × List ℕ
answered (wrote rows) before = (0, rows)
answered (refused k) before = (k, before)

-- A CALL'S WHOLE OUTCOME, as the exported function leaves it: number and `written`, and every output
abbrev pub exported : {O : Type 0} → Outcome O → List ℕ → (ℕ × List ℕ) × O
exported c before = (answered c.answer before, c.outs)

-- the number returned for a root, and `out`, which held `before`
abbrev pub exported_root : geometry.Answer → Float → ℕ × Float
exported_root (geometry.accepted r) before = (0, r)
exported_root (geometry.refused k) before = (k, before)

-- the distance returned, and `places`: how far along the first and the second segment, -0 among them
abbrev pub exported_closest : Closest → Float × List Float
exported_closest c = (c.gap, c.u ∷ c.v ∷ [])

-- the number returned for a length, and `sum`, which held `before`: 0 nothing to report, 1 the sum reported
abbrev pub exported_length : Checked → Float → ℕ × Float
exported_length (uneven k) before = (k, before)
exported_length fine before = (0, before)
exported_length (reported s) before = (1, s)

-- every count is a word
abbrev pub Words : List ℕ → Type 0
Words [] = Unit {0}
Words (n ∷ ns) = (n < 4294967296) × Words ns

-- the counts of an answer are words
abbrev pub Counted : Answer → Type 0
Counted (wrote rows) = Words rows
Counted (refused k) = Unit {0}
