-- The reading of targets: its rows, its refusals in their order, and what an admission says.
use Prim.Native.Nat.{ℕ, ◌*◌, ◌/◌, ◌%◌, ◌≤◌}
use mathlib.Core.Path.{◌≡◌, refl, sym, ap, ◌∙◌}
use mathlib.Core.List.{List, [], ◌∷◌}
use mathlib.Core.Bool.{Bool, true, false, ◌&&◌, cond, and-true}
use mathlib.Core.Option.{none, some}
use native.Mathlib.Nat.{mul-div_cancel}
use native.Mathlib.Omega.{arith}
use lib.Dec.{leb}
use lib.ListN.{length}
use borrow.Author.Tests.{leb-true}
use Rattle.model.specs.Calls.{outcome, refused, written_or9, wrote}
use Rattle.model.specs.Lists.{every, gather}
use Rattle.model.specs.Reading.{loose_target, part_rows, read_target, row_at}
use Rattle.model.specs.Reading.{ReadWarning, connection_dropped, connection_loose, lane_link_dropped, read_warning_row}
use Rattle.model.specs.Reading.{target_loose, target_warnings, target_warnings_at}
use Rattle.model.specs.ReadingCalls.{TargetOutputs, raw_sized, raw_target_worded, target_content}
use Rattle.model.specs.ReadingCalls.{target_rules, target_writing, two_to_a_road}
use Rattle.model.specs.Rows.{table, written}
use Rattle.model.specs.Rules.{first_broken, fits, sized}
use Rattle.model.specs.Tables.{target_words}
use Rattle.laws.proofs.Bound.{gather_most}
use Rattle.laws.proofs.RulesReversed.{all_pass}
use Rattle.rules.proofs.Counts.{sized_few}
use Rattle.rules.proofs.Locals.{short}
use Rattle.tables.proofs.Called.{all_written, too_short}
use Rattle.words.proofs.Scans.{left_on, right_on, Local}
use Rattle.reading.specs.Laid.{Warned, output}
use Rattle.reading.specs.TargetAnswers.{outputs}
use Rattle.reading.proofs.RowLaws.{numbered_rows, part_even, part_length}
use Rattle.reading.proofs.RunLaws.{run_rows, run_wide, run_written}

-- ---- 2
pub target_local : (text : List ℕ) → Local 9 (raw_target_worded text)
unfolding raw_target_worded
target_local text l = simp (short 9 l)

-- ---- rows
-- the row of target k
abbrev pub target_at : (text raw : List ℕ) → ℕ → List ℕ
target_at text raw k = target_words (read_target text (row_at 9 raw k))

pub target_seven : (text raw : List ℕ) (k : ℕ) → length (target_at text raw k) ≡ 7
target_seven text raw k = refl

pub targets_content : (text raw : List ℕ)
    → (target_content text raw).targets ≡ gather (target_at text raw) (part_rows 0 (length raw / 9))
unfolding target_content
targets_content text raw = numbered_rows (λ r. target_words (read_target text r)) 9 raw

pub targets_length : (text raw : List ℕ) → length (target_content text raw).targets ≡ length raw / 9 * 7
targets_length text raw =
    ap length (targets_content text raw)
    ∙ part_even (target_at text raw) 7 (target_seven text raw) 0 (length raw / 9)

-- ---- refusals
module _ (text raw : List ℕ) where
  -- 1: a whole number of roads
  abbrev pub sizes : Bool
  sizes = raw_sized text 9 (length raw) && two_to_a_road (length raw)

  pub targets_1 : sizes ≡ false → some 1 ≡ first_broken (target_rules text raw)
  unfolding target_rules
  targets_1 a = rw a

  pub targets_2 : sizes ≡ true → every (raw_target_worded text) (table 9 raw) ≡ false
      → some 2 ≡ first_broken (target_rules text raw)
  unfolding target_rules
  targets_2 a b = rw (a, b)

  pub targets_0 : sizes ≡ true → every (raw_target_worded text) (table 9 raw) ≡ true
      → none ≡ first_broken (target_rules text raw)
  unfolding target_rules
  targets_0 a b = rw (a, b)

  pub targets_few : none ≡ first_broken (target_rules text raw) → length raw / 9 ≤ 16384
  unfolding target_rules raw_sized
  targets_few e =
      let passed = (all_pass (target_rules text raw) (sym e)).0 in
      sized_few 9 16384 (length raw)
      (right_on (leb (length text) 1048576) (sized 9 16384 (length raw))
      (left_on (raw_sized text 9 (length raw)) (two_to_a_road (length raw)) passed))

-- ---- its warnings
pub at_most_four : (v : ReadWarning) → length (read_warning_row v) ≤ 4
at_most_four (connection_dropped j c) = omega arith
at_most_four (lane_link_dropped j c l) = omega arith
at_most_four (connection_loose j c) = omega arith
at_most_four (target_loose r e) = omega arith

pub at_most_one : (b : Bool) (v : ReadWarning) → length (cond b (v ∷ []) []) ≤ 1
at_most_one true v = omega arith
at_most_one false v = omega arith

module _ (text raw : List ℕ) where
  pub warned_length : {w : ℕ} {out after : List ℕ} → Warned (target_warnings text raw) (output out 0) (output after w)
      → length (target_content text raw).warnings ≡ w * 4
  unfolding target_content
  warned_length warned = run_wide warned

  -- one for each target at most
  pub warnings_few : length (target_content text raw).warnings ≤ length raw / 9 * 4
  unfolding target_content target_warnings
  warnings_few =
      let rows = gather_most 4 read_warning_row (target_warnings text raw) at_most_four in
      let warnings =
      gather_most 1 (target_warnings_at text raw) (part_rows 0 (length raw / 9))
      (λ i. at_most_one (loose_target text raw i) (target_loose (i / 2) (i % 2))) in
      omega (arith, part_length 0 (length raw / 9))

-- ---- 'written, or 9'
module _ (text raw targets warnings : List ℕ) where
  abbrev content : TargetOutputs
  content = target_content text raw

  abbrev outs : TargetOutputs
  outs = outputs targets warnings

  -- whether both outputs are long enough, as the code tests it
  abbrev pub room_for : Bool
  room_for = leb (length raw / 9 * 7) (length targets) && leb (length content.warnings) (length warnings)

  room_is : {b : Bool} → room_for ≡ b → fits (target_writing.lengths content) (target_writing.lengths outs) ≡ b
  room_is room =
      ap (λ (n : ℕ). fits (n ∷ length content.warnings ∷ []) (length targets ∷ length warnings ∷ []))
      (targets_length text raw)
      ∙ ap (λ b. leb (length raw / 9 * 7) (length targets) && b)
      (and-true (leb (length content.warnings) (length warnings)))
      ∙ room

  pub targets_short : room_for ≡ false → outcome (refused 9) outs ≡ written_or9 target_writing content outs
  targets_short short = too_short target_writing content outs (room_is short)

  pub targets_written : {w : ℕ} {targets' warnings' : List ℕ} → room_for ≡ true
      → targets' ≡ written content.targets targets
      → Warned (target_warnings text raw) (output warnings 0) (output warnings' w)
      → outcome (wrote (length raw / 9 ∷ w ∷ [])) (outputs targets' warnings') ≡ written_or9 target_writing content outs
  unfolding target_content
  targets_written room targets-put warned =
      let long = leb-true _ (length warnings) (right_on (leb (length raw / 9 * 7) (length targets)) _ room) in
      let warnings-put = run_written warned long in
      let rows = ap (λ (m : ℕ). m / 7) (targets_length text raw) ∙ mul-div_cancel (length raw / 9) (omega arith) in
      let warned-rows = run_rows warned (omega arith) in
      all_written target_writing content outs (room_is room) (λ z. sym rows z ∷ sym warned-rows z ∷ [])
      (λ z. outputs (targets-put z) (warnings-put z))
