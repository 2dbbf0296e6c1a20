-- Gaps and places compare as their bits in rows do (`stands_lt`, `stands_eq`): a number without a sign as its bits, and
-- -0, which a place may be and rows write as +0, as 0 (`place_stands`). Assumes nothing.
use mathlib.Core.Path.{◌≡◌, refl, sym, ◌∙◌, subst}
use mathlib.Core.Bool.{Bool, true, false, not, cond, true≢false}
use Prim.Native.Nat.{ℕ, zero, suc, ◌+◌, ◌*◌, ◌<◌, zero-le}
use native.Mathlib.Nat.{zero-mul, zero-add, zero-div, mul-pos, zero-lt-suc}
use native.Mathlib.Omega.{arith}
use lib.Dec.{T, ltb, eqb, lit<}
use lib.IntN.{ℤ, pos}
use lib.Ieee.{Float, nan, inf, fin, binary32, up, down, size, lt, le, eq, is_nan, fits, to_bits, of_bits}
use lib.Ieee.Bits.{of_bits-to_bits, to_bits-lt}
use lib.Ieee.Fits.{up_pos}
use borrow.Author.Tests.{eqb-true, lt-ltb, le-ltb}
use Rattle.geometry.specs.Root.{unsigned}
use Rattle.geometry.specs.Segment.{nought}
use Rattle.geometry.specs.Gap.{place_bits}
use Rattle.geometry.proofs.FloatOrder.{eqb_is, eq_is}
use Rattle.geometry.proofs.GapOrder.{Plain, plain_order}
use Rattle.geometry.proofs.Places.{Within, within_not_below}

-- ---- numbers that compare as their bits do
-- -0.0
abbrev pub minus_zero : Float
minus_zero = fin true 0 (pos 0)

-- x compares as b does: a number without a sign as its bits, and -0 as 0
pub data Stands : Float → ℕ → Type 0 where
  as_bits : {x : Float} → Plain x → T (not (is_nan x)) → Stands x (to_bits binary32 x)
  as_zero : Stands minus_zero 0

nought_plain : Plain nought × T (not (is_nan nought))
unfolding fits unsigned is_nan
nought_plain = (record { held = tt; no_sign = tt }, tt)

stands_number : {x : Float} {b : ℕ} → Stands x b → T (not (is_nan x))
unfolding is_nan
stands_number (as_bits plain_x number) = number
stands_number as_zero = tt

nought_bits : to_bits binary32 nought ≡ 0
unfolding to_bits
nought_bits = refl

-- beside a number without a sign -0 compares as +0
minus_order : (x : Float) → Plain x → T (not (is_nan x))
    → (lt x minus_zero ≡ false) × (lt minus_zero x ≡ lt nought x)
unfolding lt unsigned is_nan
minus_order nan plain number = absurd number
minus_order (inf true) plain number = absurd plain.no_sign
minus_order (inf false) plain number = (refl, refl)
minus_order (fin true m e) plain number = absurd plain.no_sign
minus_order (fin false m e) plain number = (refl, rw (zero-mul (down e), zero-add (m * up e * 1)))

pub stands_lt : {x y : Float} {b c : ℕ} → Stands x b → Stands y c → lt x y ≡ ltb b c
unfolding lt
stands_lt (as_bits plain_x x-number) (as_bits plain_y y-number) = plain_order _ _ plain_x plain_y x-number y-number
stands_lt (as_bits {x} plain_x x-number) as_zero =
    (minus_order x plain_x x-number).0 ∙ sym (le-ltb (to_bits binary32 x) 0 zero-le)
stands_lt as_zero (as_bits plain_y y-number) =
    let at-nought = plain_order nought _ nought_plain.0 plain_y nought_plain.1 y-number in
    (minus_order _ plain_y y-number).1 ∙ rw nought_bits at at-nought
stands_lt as_zero as_zero = refl

pub stands_eq : {x y : Float} {b c : ℕ} → Stands x b → Stands y c → eq x y ≡ eqb b c
stands_eq {x} {y} {b} {c} stands-x stands-y =
    eq_is x y (stands_number stands-x) (stands_number stands-y)
    ∙ rw (stands_lt stands-x stands-y, stands_lt stands-y stands-x) (sym (eqb_is b c))

-- ---- a place stands for the bits that rows show, `place_bits`
-- the format writes -0 in one way
zero_form : (e : ℤ) → T (fits binary32 (fin true zero e)) → fin true zero e ≡ minus_zero
unfolding to_bits of_bits size
zero_form e held = sym (of_bits-to_bits binary32 (fin true zero e) held) ∙ rw (zero-mul, zero-mul, zero-div)

plain_bits : (x : Float) → Plain x → T (not (is_nan x)) → place_bits x ≡ to_bits binary32 x
plain_bits x plain number =
    go (eq x nought) (stands_eq (as_bits plain number) (as_bits nought_plain.0 nought_plain.1))
  where
    go : (t : Bool) → t ≡ eqb (to_bits binary32 x) (to_bits binary32 nought)
        → cond t 0 (to_bits binary32 x) ≡ to_bits binary32 x
    go true is-nought = sym (eqb-true _ _ (sym is-nought) ∙ nought_bits)
    go false above = refl

pub place_stands : (x : Float) → T (fits binary32 x) → Within x → Stands x (place_bits x)
unfolding le lt eq unsigned is_nan
place_stands nan held within = absurd within.0
place_stands (inf true) held within = absurd within.0
place_stands (inf false) held within = absurd within.1
place_stands (fin false m e) held within =
    let plain : Plain (fin false m e) = record { held = held; no_sign = tt } in
    rw (plain_bits (fin false m e) plain tt) (as_bits plain tt)
place_stands (fin true zero e) held within =
    subst (λ (x : Float). Stands x (place_bits x)) (sym (zero_form e held)) as_zero
place_stands (fin true (suc m) e) held within =
    let above : 0 < suc m * up e * 1 + 0 * down e = omega (arith, mul-pos (zero-lt-suc m) (up_pos e)) in
    absurd (true≢false (sym (lt-ltb 0 _ above) ∙ within_not_below (fin true (suc m) e) within))

pub place_low : (x : Float) → T (fits binary32 x) → place_bits x < 0x1_0000_0000
place_low x held = go (eq x nought)
  where
    go : (t : Bool) → cond t 0 (to_bits binary32 x) < 0x1_0000_0000
    go true = lit< tt
    go false = to_bits-lt binary32 x held

pub nought_shown : place_bits nought ≡ 0
unfolding eq
nought_shown = refl
