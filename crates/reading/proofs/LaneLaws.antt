-- The reading of lanes: its rows, its refusals in their order, and what an admission says.
use Prim.Native.Nat.{ℕ, ◌*◌, ◌/◌, ◌≤◌}
use mathlib.Core.Path.{◌≡◌, refl, sym, ap, ◌∙◌}
use mathlib.Core.List.{List}
use mathlib.Core.Option.{none, some}
use lib.Dec.{leb}
use lib.ListN.{length}
use Rattle.model.specs.Lists.{gather}
use Rattle.model.specs.Reading.{part_rows, read_lane, row_at}
use Rattle.model.specs.ReadingCalls.{raw_lane_content, raw_lane_rules, raw_sized, rows_named}
use Rattle.model.specs.Rules.{first_broken, sized}
use Rattle.laws.proofs.RulesReversed.{all_pass}
use Rattle.rules.proofs.Counts.{sized_few}
use Rattle.words.proofs.Scans.{right_on}
use Rattle.reading.proofs.RowLaws.{numbered_rows, part_even}
use mathlib.Core.Bool.{true, false}

-- the row of lane k
abbrev pub lane_at : (text raw : List ℕ) → ℕ → List ℕ
lane_at text raw k = read_lane text (row_at 4 raw k)

pub lane_four : (text raw : List ℕ) (k : ℕ) → length (lane_at text raw k) ≡ 4
unfolding read_lane
lane_four text raw k = refl

pub lanes_content : (text raw : List ℕ)
    → raw_lane_content text raw ≡ gather (lane_at text raw) (part_rows 0 (length raw / 4))
unfolding raw_lane_content
lanes_content text raw = numbered_rows (read_lane text) 4 raw

pub lanes_length : (text raw : List ℕ) → length (raw_lane_content text raw) ≡ length raw / 4 * 4
lanes_length text raw =
    ap length (lanes_content text raw) ∙ part_even (lane_at text raw) 4 (lane_four text raw) 0 (length raw / 4)

-- ---- refusals
module _ (text raw : List ℕ) where
  pub lanes_1 : raw_sized text 4 (length raw) ≡ false → some 1 ≡ first_broken (raw_lane_rules text raw)
  unfolding raw_lane_rules
  lanes_1 a = rw a

  pub lanes_2 : raw_sized text 4 (length raw) ≡ true → rows_named text 4 2 raw ≡ false
      → some 2 ≡ first_broken (raw_lane_rules text raw)
  unfolding raw_lane_rules
  lanes_2 a b = rw (a, b)

  pub lanes_0 : raw_sized text 4 (length raw) ≡ true → rows_named text 4 2 raw ≡ true
      → none ≡ first_broken (raw_lane_rules text raw)
  unfolding raw_lane_rules
  lanes_0 a b = rw (a, b)

  pub lanes_few : none ≡ first_broken (raw_lane_rules text raw) → length raw / 4 ≤ 16384
  unfolding raw_lane_rules raw_sized
  lanes_few e =
      sized_few 4 16384 (length raw)
      (right_on (leb (length text) 1048576) (sized 4 16384 (length raw))
      (all_pass (raw_lane_rules text raw) (sym e)).0)
