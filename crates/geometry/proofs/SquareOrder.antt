-- Distances compared by their squares: a smaller root has a smaller number (`closer_not`), one that is four patterns
-- smaller has a smaller root (`closer_far`), two numbers have one root where the lower has no smaller one
-- (`tied_lower`), and the tolerance has a square of its own (`passed_is`). Assumes nothing.
use mathlib.Core.Path.{◌≡◌, refl, sym, ap, ap₂, ◌∙◌}
use mathlib.Core.Logic.{◌⊎◌, inl, inr}
use Prim.Native.Nat.{ℕ, ◌+◌, ◌≤◌, ◌<◌, zero-le}
use native.Mathlib.Nat.{le_refl, eq-or-lt_of_le, eq-zero-or-pos}
use native.Mathlib.Omega.{arith}
use mathlib.Core.Bool.{Bool, true, false, not, and-true, true≢false}
use lib.Dec.{T, ltb, lit<, lit≤}
use lib.Ieee.{Float, nan, inf, binary32, lt, le, eq, is_nan, of_bits, to_bits}
use lib.Ieee.Bits.{of_bits-to_bits, nan_bits_is}
use borrow.Author.Tests.{ltb-true, ltb-false, lt-ltb, le-ltb, not-true, not-false}
use Rattle.std.proofs.lemmas.Float.{not_nan_f32_bits}
use Rattle.geometry.specs.Root.{root_of}
use Rattle.geometry.specs.Gap.{tolerance}
use Rattle.geometry.specs.Units.{units, units_at, NearestBits}
use Rattle.geometry.proofs.Patterns.{bits_value}
use Rattle.geometry.proofs.Values.{held_by, pattern_top}
use Rattle.geometry.proofs.RootLaws.{root_is_at}
use Rattle.geometry.proofs.RootNearest.{root_some}
use Rattle.geometry.proofs.RootOrder.{bits_mono, bits_far}
use Rattle.geometry.proofs.FloatOrder.{nan_or_not, nan_lt, lt_nan, nan_le, nan_eq, eq_nan, below_number, eq_comm}
use Rattle.geometry.proofs.FloatOrder.{compared_numbers, eq_is, lt_once, le_is}
use Rattle.geometry.proofs.GapOrder.{Plain, plain_by, plain_order, bits_order, inf_bits}

-- ---- the pattern of a number without a sign, and that of its root
data RootAt : ℕ → ℕ → Type 0 where
  at_zero : RootAt 0 0
  at_infinity : RootAt 0x7f80_0000 0x7f80_0000
  at_number : {b r : ℕ} → 0 < b → b < 0x7f80_0000 → NearestBits b r → RootAt b r

at_top : {b r : ℕ} → RootAt b r → (b ≤ 0x7f80_0000) × (r ≤ 0x7f80_0000)
at_top at_zero = (zero-le, zero-le)
at_top at_infinity = (le_refl _, le_refl _)
at_top (at_number above finite near) = omega arith

at_mono : {b c r s : ℕ} → RootAt b r → RootAt c s → b ≤ c → r ≤ s
at_mono at_zero root-c h = zero-le
at_mono at_infinity at_zero h = omega arith
at_mono at_infinity at_infinity h = h
at_mono at_infinity (at_number above finite near) h = omega arith
at_mono (at_number above finite near) at_zero h = omega arith
at_mono (at_number above finite near) at_infinity h = omega arith
at_mono (at_number above finite near) (at_number above' finite' near') h = bits_mono near near' h

at_far : {b c r s : ℕ} → RootAt b r → RootAt c s → b + 4 ≤ c → r < s
at_far at_zero at_zero h = omega arith
at_far at_zero at_infinity h = omega arith
at_far at_zero (at_number above finite near) h = near.above_zero
at_far at_infinity root-c h = omega (arith, (at_top root-c).0)
at_far (at_number above finite near) at_zero h = omega arith
at_far (at_number above finite near) at_infinity h = omega arith
at_far (at_number above finite near) (at_number above' finite' near') h = bits_far above finite near near' h

zero_root : root_of (of_bits binary32 0) ≡ of_bits binary32 0
unfolding root_of of_bits
zero_root = refl

top_root : root_of (of_bits binary32 0x7f80_0000) ≡ of_bits binary32 0x7f80_0000
unfolding root_of of_bits
top_root = refl

root_at_lem : (b : ℕ) → b ≤ 0x7f80_0000 → (r : ℕ) × RootAt b r × (root_of (of_bits binary32 b) ≡ of_bits binary32 r)
root_at_lem b top = go (eq-zero-or-pos b) (eq-or-lt_of_le top)
  where
    go : (b ≡ 0) ⊎ (0 < b) → (b ≡ 0x7f80_0000) ⊎ (b < 0x7f80_0000)
        → (r : ℕ) × RootAt b r × (root_of (of_bits binary32 b) ≡ of_bits binary32 r)
    go (inl zero) either = rw zero (0, at_zero, zero_root)
    go (inr above) (inl infinity) = rw infinity (0x7f80_0000, at_infinity, top_root)
    go (inr above) (inr finite) =
        let root = root_some b above finite in
        let is = root_is_at (of_bits binary32 b) b root.0 above (bits_value b finite) root.1 in
        (root.0, at_number above finite root.1, is)

-- ---- over values
-- what is known of such a number and its root
record WithRoot (x : Float) : Type 0 where
  bits : ℕ
  at : RootAt (to_bits binary32 x) bits
  number : x ≡ of_bits binary32 (to_bits binary32 x)
  root : root_of x ≡ of_bits binary32 bits

with_root : (x : Float) → Plain x → T (not (is_nan x)) → WithRoot x
with_root x plain number =
    let back = of_bits-to_bits binary32 x plain.held in
    let found = root_at_lem (to_bits binary32 x) (pattern_top x plain.held plain.no_sign number) in
    record { bits = found.0; at = found.1; number = sym back; root = ap root_of (sym back) ∙ found.2 }

-- roots compare as their patterns do
root_order : {x y : Float} (r : WithRoot x) (s : WithRoot y) → lt (root_of x) (root_of y) ≡ ltb r.bits s.bits
root_order r s = ap₂ lt r.root s.root ∙ bits_order _ _ (at_top r.at).1 (at_top s.at).1

pub root_nan : root_of nan ≡ nan
unfolding root_of
root_nan = refl

-- ---- `closer`
pub closer_far : (x y : Float) → Plain x → Plain y → lt x y ≡ true → to_bits binary32 x + 4 ≤ to_bits binary32 y
    → true ≡ lt (root_of x) (root_of y)
closer_far x y plain_x plain_y below far =
    let numbers = below_number x y below in
    let r = with_root x plain_x numbers.0 in
    let s = with_root y plain_y numbers.1 in
    sym (root_order r s ∙ lt-ltb _ _ (at_far r.at s.at far))

pub closer_not : (x y : Float) → Plain x → Plain y → lt x y ≡ false → false ≡ lt (root_of x) (root_of y)
closer_not x y plain_x plain_y not_below = go (nan_or_not x) (nan_or_not y)
  where
    go : (x ≡ nan) ⊎ T (not (is_nan x)) → (y ≡ nan) ⊎ T (not (is_nan y)) → false ≡ lt (root_of x) (root_of y)
    go (inl x-nan) either = rw (x-nan, root_nan, nan_lt)
    go (inr x-number) (inl y-nan) = rw (y-nan, root_nan, lt_nan)
    go (inr x-number) (inr y-number) =
        let r = with_root x plain_x x-number in
        let s = with_root y plain_y y-number in
        let falls = ltb-false _ _ (sym (plain_order x y plain_x plain_y x-number y-number) ∙ not_below) in
        sym (root_order r s ∙ le-ltb _ _ (at_mono s.at r.at falls))

-- ---- `tied`
bits_number : (b : ℕ) → b ≤ 0x7f80_0000 → T (not (is_nan (of_bits binary32 b)))
bits_number b top = rw nan_bits_is at (not_nan_f32_bits b (omega arith))

-- the root of a number is one
root_number : (x : Float) → Plain x → T (not (is_nan x)) → T (not (is_nan (root_of x)))
root_number x plain number = let r = with_root x plain number in rw r.root (bits_number _ (at_top r.at).1)

module _ (x y : Float) (plain_x : Plain x) (plain_y : Plain y) where
  -- x at most y: one root unless that of x is smaller
  pub tied_lower : {t : Bool} → le x y ≡ true → t ≡ lt (root_of x) (root_of y) → not t ≡ eq (root_of x) (root_of y)
  tied_lower at_most smaller =
      let numbers = compared_numbers x y at_most in
      let not_above = not-true _ (sym (le_is x y numbers.0 numbers.1) ∙ at_most) in
      let roots = eq_is _ _ (root_number x plain_x numbers.0) (root_number y plain_y numbers.1) in
      rw (roots, ← smaller, ← closer_not y x plain_y plain_x not_above) (sym (and-true _))

  -- neither: one of them is a NaN
  pub tied_nan : le x y ≡ false → le y x ≡ false → false ≡ eq (root_of x) (root_of y)
  tied_nan not-at-most not-at-least = go (nan_or_not x) (nan_or_not y)
    where
      go : (x ≡ nan) ⊎ T (not (is_nan x)) → (y ≡ nan) ⊎ T (not (is_nan y)) → false ≡ eq (root_of x) (root_of y)
      go (inl x-nan) either = rw (x-nan, root_nan, nan_eq)
      go (inr x-number) (inl y-nan) = rw (y-nan, root_nan, eq_nan)
      go (inr x-number) (inr y-number) =
          let above = not-false _ (sym (le_is x y x-number y-number) ∙ not-at-most) in
          let below = not-false _ (sym (le_is y x y-number x-number) ∙ not-at-least) in
          absurd (true≢false (sym above ∙ lt_once x y below))

-- ---- `only_pair`: a root is below infinity where its number is
finite_bits : {b r : ℕ} → RootAt b r → ltb r 0x7f80_0000 ≡ ltb b 0x7f80_0000
finite_bits at_zero = refl
finite_bits at_infinity = refl
finite_bits {b} {r} (at_number above finite near) =
    let root_finite : r < 0x7f80_0000 = omega arith in
    lt-ltb _ _ root_finite ∙ sym (lt-ltb _ _ finite)

pub root_finite : (x : Float) → Plain x → lt (root_of x) (inf false) ≡ lt x (of_bits binary32 0x7f80_0000)
root_finite x plain = go (nan_or_not x)
  where
    go : (x ≡ nan) ⊎ T (not (is_nan x)) → lt (root_of x) (inf false) ≡ lt x (of_bits binary32 0x7f80_0000)
    go (inl x-nan) = rw (x-nan, root_nan) (nan_lt _ ∙ sym (nan_lt _))
    go (inr x-number) =
        let r = with_root x plain x-number in
        let root-test = bits_order r.bits 0x7f80_0000 (at_top r.at).1 (le_refl _) in
        let test = bits_order (to_bits binary32 x) 0x7f80_0000 (at_top r.at).0 (le_refl _) in
        ap₂ lt r.root (sym inf_bits) ∙ root-test ∙ finite_bits r.at ∙ sym test
        ∙ ap (λ (y : Float). lt y (of_bits binary32 0x7f80_0000)) (sym r.number)

-- ---- `gap_decision`: 0x3c23d70b is the last pattern whose root is at most the tolerance, 0x3dcccccd
last_root : RootAt 0x3c23_d70b 0x3dcc_cccd
unfolding units units_at
last_root =
    at_number (lit< tt) (lit< tt) (record { above_zero = lit< tt; finite = lit< tt; low = lit< tt; high = lit< tt })

next_root : RootAt 0x3c23_d70c 0x3dcc_ccce
unfolding units units_at
next_root =
    at_number (lit< tt) (lit< tt) (record { above_zero = lit< tt; finite = lit< tt; low = lit< tt; high = lit< tt })

passed_bits : {b r : ℕ} → RootAt b r → ltb 0x3dcc_cccd r ≡ ltb 0x3c23_d70b b
passed_bits {b} {r} root = go (ltb 0x3c23_d70b b) refl
  where
    go : (t : Bool) → ltb 0x3c23_d70b b ≡ t → ltb 0x3dcc_cccd r ≡ t
    go true above = lt-ltb _ _ (at_mono next_root root (ltb-true _ _ above))
    go false up_to_lem = le-ltb _ _ (at_mono root last_root (ltb-false _ _ up_to_lem))

tolerance_bits : of_bits binary32 0x3dcc_cccd ≡ tolerance
unfolding of_bits
tolerance_bits = refl

bits_le : (b c : ℕ) → b ≤ 0x7f80_0000 → c ≤ 0x7f80_0000 → le (of_bits binary32 b) (of_bits binary32 c) ≡ not (ltb c b)
bits_le b c b-top c-top =
    le_is (of_bits binary32 b) (of_bits binary32 c) (bits_number b b-top) (bits_number c c-top)
    ∙ ap not (bits_order c b c-top b-top)

pub passed_is : (x : Float) → Plain x → le (root_of x) tolerance ≡ le x (of_bits binary32 0x3c23_d70b)
passed_is x plain = go (nan_or_not x)
  where
    go : (x ≡ nan) ⊎ T (not (is_nan x)) → le (root_of x) tolerance ≡ le x (of_bits binary32 0x3c23_d70b)
    go (inl x-nan) = rw (x-nan, root_nan) (nan_le tolerance ∙ sym (nan_le _))
    go (inr x-number) =
        let r = with_root x plain x-number in
        let root-test = bits_le r.bits 0x3dcc_cccd (at_top r.at).1 (lit≤ tt) in
        let test = bits_le (to_bits binary32 x) 0x3c23_d70b (at_top r.at).0 (lit≤ tt) in
        ap₂ le r.root (sym tolerance_bits) ∙ root-test ∙ ap not (passed_bits r.at) ∙ sym test
        ∙ ap (λ (y : Float). le y (of_bits binary32 0x3c23_d70b)) (sym r.number)

-- for `closer`, `tied` and `gap_decision`
pub ruleset closer = (closer_far, closer_not, plain_by, held_by, pattern_top, below_number)

pub ruleset tied = (tied_lower, tied_nan, eq_comm, plain_by)

pub ruleset decision = (passed_is, plain_by)
