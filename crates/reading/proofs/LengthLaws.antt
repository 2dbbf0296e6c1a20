-- The length check.
use Prim.Native.Nat.{ℕ, suc, ◌-◌, ◌<◌}
use mathlib.Core.Path.{◌≡◌, refl, sym, ap, ap₂, ◌∙◌}
use mathlib.Core.List.{List, [], ◌∷◌}
use mathlib.Core.Bool.{Bool, true, false, ◌||◌, cond, or-false}
use mathlib.Core.Option.{some}
use native.Mathlib.Omega.{arith}
use lib.Ieee.{Float, add, binary64, fin, inf, lt, nan, neg, sub}
use lib.ListN.{length, get_or}
use borrow.Author.Tests.{eq-eqb, ne_eqb}
use Rattle.model.specs.Length.{absolute, far_off, fine, length_call, length_tolerance, plan_view, report, reported}
use Rattle.model.specs.Length.{uneven}
use Rattle.model.specs.Lists.{last_or}
use Rattle.std.specs.Bool.{then_some}
use Rattle.std.specs.Prelude.{Option, Ok}
use Rattle.reading.specs.Answers.{checked_of}

-- more than the tolerance above or below zero
far_either : (d : Float) → lt length_tolerance (absolute d) ≡ lt length_tolerance d || lt length_tolerance (neg d)
unfolding lt neg
far_either nan = refl
far_either (inf true) = refl
far_either (inf false) = refl
far_either (fin true m e) = refl
far_either (fin false m e) = sym (or-false (lt length_tolerance (fin false m e)))

pub far_above : (x sum : Float) → lt length_tolerance (sub binary64 x sum) ≡ true → true ≡ far_off x sum
unfolding far_off
far_above x sum e =
    sym
    (far_either (sub binary64 x sum) ∙ ap (λ (b : Bool). b || lt length_tolerance (neg (sub binary64 x sum))) e)

pub far_below : (x sum : Float) → lt length_tolerance (sub binary64 x sum) ≡ false
    → lt length_tolerance (neg (sub binary64 x sum)) ≡ far_off x sum
unfolding far_off
far_below x sum e =
    sym
    (far_either (sub binary64 x sum) ∙ ap (λ (b : Bool). b || lt length_tolerance (neg (sub binary64 x sum))) e)

-- ---- the call
last_is : (d x : Float) (xs : List Float) → get_or (x ∷ xs) (length xs) d ≡ last_or x xs
last_is d x [] = refl
last_is d x (y ∷ ys) = last_is d y ys

last_at : (d x : Float) (xs : List Float) (n : ℕ) → n ≡ length (x ∷ xs) → get_or (x ∷ xs) (n - 1) d ≡ last_or x xs
last_at d x xs n e =
    ap (λ (k : ℕ). get_or (x ∷ xs) k d)
    (let z : n - 1 ≡ length xs = let y : n ≡ suc (length xs) = e in omega arith in z)
    ∙ last_is d x xs

plan_view_lem : (ss ls : List Float) (d : Float) (n : ℕ) → n ≡ length ss → n ≡ length ls → (n ≡ 0 → ⊥)
    → plan_view ss ls ≡ some (add binary64 (get_or ss (n - 1) d) (get_or ls (n - 1) d))
plan_view_lem [] ls d n e f z = absurd (z e)
plan_view_lem (s ∷ ss) [] d n e f z = absurd (z f)
plan_view_lem (s ∷ ss) (l ∷ ls) d n e f z =
    sym (ap₂ (λ (a b : Float). some (add binary64 a b)) (last_at d s ss n e) (last_at d l ls n f))

even_call : (ss ls : List Float) (x : Float) (n : ℕ) → n ≡ length ss → n ≡ length ls
    → length_call ss ls x ≡ report x (plan_view ss ls)
unfolding length_call
even_call ss ls x n e f =
    ap (λ (b : Bool). cond b (report x (plan_view ss ls)) (uneven 16))
    (eq-eqb (length ss) (length ls) (sym e ∙ f))

pub length_uneven : (ss ls : List Float) (x : Float) → (length ss ≡ length ls → ⊥) → uneven 16 ≡ length_call ss ls x
unfolding length_call
length_uneven ss ls x n =
    sym (ap (λ (b : Bool). cond b (report x (plan_view ss ls)) (uneven 16)) (ne_eqb (length ss) (length ls) n))

pub length_none : (ss ls : List Float) (x : Float) → length ss ≡ length ls → length ss ≡ 0 → fine ≡ length_call ss ls x
length_none [] ls x e z = sym (even_call [] ls x 0 refl e)
length_none (s ∷ ss) ls x e z = absurd (let y : suc (length ss) ≡ 0 = z in omega arith)

sum_report : (ss ls : List Float) (x d : Float) (n : ℕ) → n ≡ length ss → n ≡ length ls → (n ≡ 0 → ⊥)
    → length_call ss ls x
    ≡ cond (far_off x (add binary64 (get_or ss (n - 1) d) (get_or ls (n - 1) d)))
    (reported (add binary64 (get_or ss (n - 1) d) (get_or ls (n - 1) d))) fine
sum_report ss ls x d n e f z = even_call ss ls x n e f ∙ ap (report x) (plan_view_lem ss ls d n e f z)

-- a sum that is reported where a test holds
reported_if : (far : Bool) (sum : Float) → checked_of (Ok (then_some far sum)) ≡ cond far (reported sum) fine
reported_if true sum = refl
reported_if false sum = refl

pub length_sum : (ss ls : List Float) (x : Float) {a b : Float} {far : Bool} {r : Option Float}
    → length ss ≡ length ls → 0 < length ss → a ≡ get_or ss (length ss - 1) nan → b ≡ get_or ls (length ls - 1) nan
    → far ≡ far_off x (add binary64 a b) → r ≡ then_some far (add binary64 a b)
    → checked_of (Ok r) ≡ length_call ss ls x
length_sum ss ls x {a} {b} even some-start a_is b_is far_is r_is =
    let last : b ≡ get_or ls (length ss - 1) nan = b_is ∙ ap (λ (n : ℕ). get_or ls (n - 1) nan) (sym even) in
    ap (λ o. checked_of (Ok o)) r_is
    ∙ reported_if _ (add binary64 a b)
    ∙ ap (λ (t : Bool). cond t (reported (add binary64 a b)) fine) far_is
    ∙ ap₂ (λ (u v : Float). cond (far_off x (add binary64 u v)) (reported (add binary64 u v)) fine) a_is last
    ∙ sym (sum_report ss ls x nan (length ss) refl even (λ z. omega arith))
