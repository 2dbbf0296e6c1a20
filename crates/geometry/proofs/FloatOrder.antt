-- The comparisons of `lib.Ieee`: of two numbers, equal is neither below (`eq_is`) and at most is not above (`le_is`).
-- With a NaN none holds (`compared_numbers`). Assumes nothing.
use mathlib.Core.Path.{◌≡◌, refl, sym, ap, ◌∙◌}
use mathlib.Core.Logic.{◌⊎◌, inl, inr}
use Prim.Native.Nat.{ℕ, zero, suc, ◌+◌, ◌*◌}
use native.Mathlib.Nat.{add_comm, le_of_lt}
use native.Mathlib.Omega.{arith}
use mathlib.Core.Bool.{Bool, true, false, not, ◌&&◌, ◌||◌, and-true, and-false, and_comm, true≢false, or-true}
use lib.Dec.{T, ltb, eqb, eqb-zero-suc, eqb-suc-zero}
use lib.Ieee.{Float, nan, inf, fin, up, down, below, level, lt, le, eq, is_nan}
use borrow.Author.Tests.{ltb-true, ltb-false, lt-ltb, le-ltb, eq-eqb, ne_eqb}

-- ---- a NaN, or a number
pub nan_or_not : (x : Float) → (x ≡ nan) ⊎ T (not (is_nan x))
unfolding is_nan
nan_or_not nan = inl refl
nan_or_not (inf s) = inr tt
nan_or_not (fin s m e) = inr tt

pub lt_nan : (x : Float) → lt x nan ≡ false
unfolding lt
lt_nan nan = refl
lt_nan (inf s) = refl
lt_nan (fin s m e) = refl

pub nan_lt : (x : Float) → lt nan x ≡ false
unfolding lt
nan_lt x = refl

pub nan_le : (x : Float) → le nan x ≡ false
unfolding le
nan_le x = refl

pub nan_eq : (x : Float) → eq nan x ≡ false
unfolding eq
nan_eq x = refl

pub eq_nan : (x : Float) → eq x nan ≡ false
unfolding eq
eq_nan nan = refl
eq_nan (inf s) = refl
eq_nan (fin s m e) = refl

-- what is at most something, or at least, is a number
pub compared_numbers : (x y : Float) → le x y ≡ true → T (not (is_nan x)) × T (not (is_nan y))
unfolding le lt eq is_nan
compared_numbers nan y h = absurd (true≢false (sym h))
compared_numbers (inf s) nan h = absurd (true≢false (sym h))
compared_numbers (fin s m e) nan h = absurd (true≢false (sym h))
compared_numbers (inf s) (inf t) h = (tt, tt)
compared_numbers (inf s) (fin t n d) h = (tt, tt)
compared_numbers (fin s m e) (inf t) h = (tt, tt)
compared_numbers (fin s m e) (fin t n d) h = (tt, tt)

-- so is what is below something, or above
pub below_number : (x y : Float) → lt x y ≡ true → T (not (is_nan x)) × T (not (is_nan y))
unfolding le
below_number x y below = compared_numbers x y (rw below)

-- ---- whole numbers with signs, as `lib.Ieee` compares finite values
pub eqb_is : (a b : ℕ) → eqb a b ≡ not (ltb a b) && not (ltb b a)
eqb_is a b = go (ltb a b) (ltb b a) refl refl
  where
    go : (l g : Bool) → ltb a b ≡ l → ltb b a ≡ g → eqb a b ≡ not l && not g
    go true g less other = ne_eqb a b (λ (e : a ≡ b). omega (arith, ltb-true a b less))
    go false true other more = ne_eqb a b (λ (e : a ≡ b). omega (arith, ltb-true b a more))
    go false false not-less not_more = eq-eqb a b (omega (arith, ltb-false a b not-less, ltb-false b a not_more))

-- +a and -b are level only at zero
unlike_level : (a b : ℕ) → eqb a b && eqb a 0 ≡ not (ltb 0 (a + b))
unlike_level zero zero = refl
unlike_level zero (suc b) = rw (eqb-zero-suc b, lt-ltb 0 (0 + suc b) (omega arith))
unlike_level (suc a) b = rw (eqb-suc-zero a, and-false (eqb (suc a) b), lt-ltb 0 (suc a + b) (omega arith))

level_is : (s t : Bool) (a b : ℕ) → level s a t b ≡ not (below s a t b) && not (below t b s a)
level_is false false a b = and-true (eqb a b) ∙ eqb_is a b
level_is false true a b = unlike_level a b ∙ ap (λ (n : ℕ). not (ltb 0 n)) (add_comm a b)
level_is true false a b = unlike_level a b ∙ sym (and-true _)
level_is true true a b = and-true (eqb a b) ∙ eqb_is a b ∙ and_comm (not (ltb a b)) (not (ltb b a))

below_once : (s t : Bool) (a b : ℕ) → below s a t b ≡ true → below t b s a ≡ false
below_once false false a b h = le-ltb b a (le_of_lt (ltb-true a b h))
below_once false true a b h = absurd (true≢false (sym h))
below_once true false a b h = refl
below_once true true a b h = le-ltb a b (le_of_lt (ltb-true b a h))

-- ---- numbers
pub eq_is : (x y : Float) → T (not (is_nan x)) → T (not (is_nan y)) → eq x y ≡ not (lt x y) && not (lt y x)
unfolding eq lt is_nan
eq_is nan y h k = absurd h
eq_is (inf s) nan h k = absurd k
eq_is (fin s m e) nan h k = absurd k
eq_is (inf true) (inf true) h k = refl
eq_is (inf true) (inf false) h k = refl
eq_is (inf false) (inf true) h k = refl
eq_is (inf false) (inf false) h k = refl
eq_is (inf true) (fin t n d) h k = refl
eq_is (inf false) (fin t n d) h k = refl
eq_is (fin s m e) (inf true) h k = refl
eq_is (fin s m e) (inf false) h k = refl
eq_is (fin s m e) (fin t n d) h k = level_is s t (m * up e * down d) (n * up d * down e)

pub eq_comm : (x y : Float) → eq x y ≡ eq y x
eq_comm x y = go (nan_or_not x) (nan_or_not y)
  where
    go : (x ≡ nan) ⊎ T (not (is_nan x)) → (y ≡ nan) ⊎ T (not (is_nan y)) → eq x y ≡ eq y x
    go (inl x-nan) either = rw (x-nan, nan_eq, eq_nan)
    go (inr x-number) (inl y-nan) = rw (y-nan, nan_eq, eq_nan)
    go (inr x-number) (inr y-number) =
        eq_is x y x-number y-number
        ∙ and_comm (not (lt x y)) (not (lt y x))
        ∙ sym (eq_is y x y-number x-number)

-- what is equal is not below
pub equal_not_below : (x y : Float) → eq x y ≡ true → lt x y ≡ false
unfolding le
equal_not_below x y equal =
    let numbers = compared_numbers x y (rw (equal, or-true)) in
    go (lt x y) (lt y x) (sym (eq_is x y numbers.0 numbers.1) ∙ equal)
  where
    go : (p q : Bool) → not p && not q ≡ true → p ≡ false
    go true q neither = absurd (true≢false (sym neither))
    go false q neither = refl

pub lt_once : (x y : Float) → lt x y ≡ true → lt y x ≡ false
unfolding lt
lt_once nan y h = absurd (true≢false (sym h))
lt_once (inf s) nan h = absurd (true≢false (sym h))
lt_once (fin s m e) nan h = absurd (true≢false (sym h))
lt_once (inf true) (inf true) h = refl
lt_once (inf true) (inf false) h = refl
lt_once (inf false) (inf t) h = absurd (true≢false (sym h))
lt_once (inf true) (fin t n d) h = refl
lt_once (inf false) (fin t n d) h = absurd (true≢false (sym h))
lt_once (fin s m e) (inf true) h = absurd (true≢false (sym h))
lt_once (fin s m e) (inf false) h = refl
lt_once (fin s m e) (fin t n d) h = below_once s t (m * up e * down d) (n * up d * down e) h

pub le_is : (x y : Float) → T (not (is_nan x)) → T (not (is_nan y)) → le x y ≡ not (lt y x)
unfolding le
le_is x y h k = rw (eq_is x y h k) (go (lt x y) (lt y x) (lt_once x y))
  where
    go : (p q : Bool) → (p ≡ true → q ≡ false) → p || (not p && not q) ≡ not q
    go true q once = rw (once refl)
    go false q once = refl
