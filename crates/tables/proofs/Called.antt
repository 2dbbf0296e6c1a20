-- The whole outcome of a call, from what its checks answer.
use Prim.Native.Nat.{ℕ, ◌<◌, ◌≤◌}
use mathlib.Core.Path.{◌≡◌, refl, sym, ap, ap₂, ◌∙◌}
use mathlib.Core.List.{List, [], ◌∷◌}
use mathlib.Core.Bool.{Bool, true, false, cond}
use mathlib.Core.Option.{none, some}
use lib.ListN.{length}
use borrow.Author.Tests.{le-leb, lt-leb}
use Rattle.std.specs.Prelude.{Result, Ok, Err}
use Rattle.std.specs.Result.{IsErrAnd}
use Rattle.model.specs.Calls.{Writing, called, long_enough, outcome, refused, settled, wrote, written_or9}
use Rattle.model.specs.Rules.{Rule, first_broken, fits, rule}
use Rattle.laws.proofs.RulesReversed.{broken_append}
use Rattle.tables.specs.declared.refusal.Refusal.{Refusal}
use Rattle.tables.proofs.Order.{number_stays}

module _ {O : Type 0} (w : Writing O) (rules : List Rule) (content outs : O) where
  -- a refusal of its checks is the call's
  pub call_refused : (k : ℕ) → some k ≡ first_broken rules → outcome (refused k) outs ≡ called w rules content outs
  call_refused k first =
      ap (λ o. settled o (w.rows content) (w.put content outs) outs)
      (number_stays rules (long_enough (w.lengths content) (w.lengths outs)) k first)

  -- where there is none, 'written, or 9' is left
  pub call_admitted : none ≡ first_broken rules → written_or9 w content outs ≡ called w rules content outs
  call_admitted first =
      ap (λ o. settled o (w.rows content) (w.put content outs) outs)
      (sym (broken_append rules (long_enough (w.lengths content) (w.lengths outs)) (sym first)))

-- ---- `?`: an answer that is the same refusal
pub err_is : {A : Type 0} (q : Result A Refusal) (r : Refusal) → IsErrAnd q (λ e. e ≡ r) → q ≡ Err r
err_is (Ok a) r e = absurd e
err_is (Err k) r e = ap Err e

-- ---- room in one table
pub one_fits : (content out : List ℕ) → length content ≤ length out
    → fits (length content ∷ []) (length out ∷ []) ≡ true
one_fits content out room = rw (le-leb (length content) (length out) room)

pub one_short : (content out : List ℕ) → length out < length content
    → fits (length content ∷ []) (length out ∷ []) ≡ false
one_short content out short = rw (lt-leb (length content) (length out) short)

-- ---- written, or 9
module _ {O : Type 0} (w : Writing O) (content outs : O) where
  by_room : (b : Bool) → fits (w.lengths content) (w.lengths outs) ≡ b
      → settled (cond b none (some 9)) (w.rows content) (w.put content outs) outs
      ≡ written_or9 w content outs
  by_room b room =
      ap (λ o. settled o (w.rows content) (w.put content outs) outs)
      (sym (ap (λ (fit : Bool). first_broken (rule 9 fit ∷ [])) room ∙ last b))
    where
      last : (b : Bool) → first_broken (rule 9 b ∷ []) ≡ cond b none (some 9)
      last true = refl
      last false = refl

  pub too_short : fits (w.lengths content) (w.lengths outs) ≡ false
      → outcome (refused 9) outs ≡ written_or9 w content outs
  too_short = by_room false

  pub all_written : {rows : List ℕ} {after : O} → fits (w.lengths content) (w.lengths outs) ≡ true
      → rows ≡ w.rows content → after ≡ w.put content outs
      → outcome (wrote rows) after ≡ written_or9 w content outs
  all_written room counted put = ap₂ (λ rows after. outcome (wrote rows) after) counted put ∙ by_room true room
