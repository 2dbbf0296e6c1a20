-- From a call's answer to what the exported function leaves. A call answers with a case of an enum Q, which means an
-- Answer.
use mathlib.Core.Path.{◌≡◌, sym, ap, ◌∙◌, subst}
use mathlib.Core.List.{List, [], ◌∷◌}
use mathlib.Core.Option.{none}
use Prim.Native.Nat.{ℕ, zero, suc, ◌<◌}
use native.Mathlib.Omega.{arith}
use lib.ListN.{get_or}
use lib.Ieee.{Float}
use Rattle.std.specs.Prelude.{Result}
use Rattle.geometry.specs.Root as geometry
use Rattle.geometry.specs.declared.root.BelowZero.{BelowZero}
use Rattle.model.specs.Calls.{Answer, Outcome, Writing, called, outcome, refused, wrote}
use Rattle.model.specs.Rules.{Rule, first_broken}
use Rattle.vorzhyket.specs.Exported.{Counted, Words, answered, exported, exported_root}
use Rattle.vorzhyket.proofs.Accepted.{accepted}

-- ---- counts
-- each count is a word
pub count_low : (rows : List ℕ) → Words rows → (i : ℕ) → get_or rows i 0 < 4294967296
count_low [] low i = omega arith
count_low (n ∷ ns) low zero = low.0
count_low (n ∷ ns) low (suc i) = count_low ns low.1 i

-- ---- of the root
pub root_as : {a x : Result Float BelowZero} {r : geometry.Answer} (before : Float) → geometry.answer_of a ≡ r → a ≡ x
    → exported_root (geometry.answer_of x) before ≡ exported_root r before
root_as before e f =
    ap (λ (y : Result Float BelowZero). exported_root (geometry.answer_of y) before) (sym f)
    ∙ ap (λ (y : geometry.Answer). exported_root y before) e

-- ---- the whole outcome r
pub leaves : {O : Type 0} {y : Answer} {o : O} {r : Outcome O} → outcome y o ≡ r → (before : List ℕ)
    {left : ℕ × List ℕ} → left ≡ answered y before → (left, o) ≡ exported r before
leaves {O} {o = o} e before f =
    ap {B = (ℕ × List ℕ) × O} (λ (l : ℕ × List ℕ). (l, o)) f ∙ ap (λ (c : Outcome O). exported c before) e

-- and its outputs once they are given back
pub leaves_given : {O : Type 0} {y : Answer} {o p : O} {r : Outcome O} → outcome y o ≡ r → (before : List ℕ)
    {left : ℕ × List ℕ} → left ≡ answered y before → o ≡ p → (left, p) ≡ exported r before
leaves_given {O} e before {left} f given =
    ap {B = (ℕ × List ℕ) × O} (λ (o : O). (left, o)) (sym given) ∙ leaves e before f

-- a call's counts are words, if its content's are where no rule is broken
pub counted : {O : Type 0} (w : Writing O) (rules : List Rule) (content outs : O) {y : Answer} {o : O}
    → outcome y o ≡ called w rules content outs → (first_broken rules ≡ none → Words (w.rows content)) → Counted y
counted {O} w rules content outs {y} e few = go y (ap (λ (c : Outcome O). c.answer) e)
  where
    go : (y : Answer) → y ≡ (called w rules content outs).answer → Counted y
    go (wrote rows) f =
        let unbroken = accepted w rules content outs f in
        subst Words (sym unbroken.1) (few unbroken.0)
    go (refused k) f = tt
