-- Over patterns: a root grows with its number (`bits_mono`), and numbers four patterns apart have different roots
-- (`bits_far`). Assumes nothing.
use mathlib.Core.Path.{◌≡◌, sym, ap, ◌∙◌}
use Prim.Native.Nat.{ℕ, suc, ◌+◌, ◌-◌, ◌*◌, ◌/◌, ◌%◌, ◌^◌, ◌≤◌, ◌<◌}
use native.Mathlib.Nat.{le_refl, le_trans, le_of_eq, le_of_lt, lt_of_lt_of_le, lt_of_le_of_lt, lt_of_not-le}
use native.Mathlib.Nat.{lt_irrefl, add-le-add, mul-le-mul_right, mul-le-mul_left, lt_of_mul-lt-mul_right}
use native.Mathlib.Nat.{add_assoc, mul_assoc, one-mul, pow-succ'}
use native.Mathlib.Omega.{arith}
use mathlib.Core.Bool.{Bool, true, false, not}
use lib.Dec.{T, ltb, leb, ltb→lt, nltb→le, leb→le, nleb→lt}
use lib.Pow.{pow-add, pow_mono, pow_pos}
use Rattle.geometry.specs.Units.{units, Scales, NearestBits}
use Rattle.geometry.proofs.Squares.{square_le}
use Rattle.geometry.proofs.Units.{units_rise, units_le, units_normal, units_next, midpoints_le}
use Rattle.geometry.proofs.Digits.{scale_low, scale_normal}
use Rattle.geometry.proofs.Rounded.{scaled_for, exponent, scaled_range, scaled_value, value_at}
use Rattle.geometry.proofs.Rounded.{root_range, nearest_bits, pulled, square_odd}
use Rattle.geometry.proofs.RootNearest.{near_at}

-- were s below r, the midpoint above s would be at most that below r
pub bits_mono : {b c r s : ℕ} → NearestBits b r → NearestBits c s → b ≤ c → r ≤ s
bits_mono {b} {c} {r} {s} root-b root-c up_to_lem = other (λ (g : s < r).
    let numbers = mul-le-mul_right (2 ^ 149) (mul-le-mul_left 4 (units_le b c up_to_lem)) in
    let c-below-b = lt_of_lt_of_le root-c.high (le_trans (midpoints_le s r g) (le_of_lt root-b.low)) in
    lt_irrefl (4 * units b * 2 ^ 149) (lt_of_le_of_lt numbers c-below-b))
  where
    other : (s < r → ⊥) → r ≤ s
    other f = omega arith

-- ---- four patterns on, a number is larger by four of its last digits at least, k being that of `Scales`
abbrev Spread : ℕ → ℕ → Type 0
Spread b k = units b * 2 ^ 23 + 4 * 2 ^ k ≤ units (b + 4) * 2 ^ 23

spread_low : (b k : ℕ) → k ≤ 23 → Spread b k
spread_low b k small = omega (arith, units_rise b 4, pow_mono small)

-- from q = 2 ^ 24 on each pattern is worth two of these digits
units_least : (x q : ℕ) → 2 ^ 23 ≤ q → q ≤ 2 ^ 24 + 2 ^ 23 → q * 2 ^ x ≤ units (x * 2 ^ 23 + q)
units_least x q lo hi = go (leb q (2 ^ 24)) (leb→le q (2 ^ 24)) (nleb→lt q (2 ^ 24))
  where
    go : (t : Bool) → (T t → q ≤ 2 ^ 24) → (T (not t) → 2 ^ 24 < q) → q * 2 ^ x ≤ units (x * 2 ^ 23 + q)
    go true digits over = le_of_eq (sym (units_normal x q lo (digits tt)))
    go false digits over =
        let above = over tt in
        let rest : q ≤ (q - 2 ^ 23) * 2 = omega arith in
        let carried : x * 2 ^ 23 + q ≡ suc x * 2 ^ 23 + (q - 2 ^ 23) = omega arith in
        let is = ap units carried ∙ units_normal (suc x) (q - 2 ^ 23) (omega arith) (omega arith) in
        rw (is, pow-succ' 2 x) (omega (arith, mul-le-mul_right (2 ^ x) rest))

spread_normal : (x q : ℕ) → 2 ^ 23 ≤ q → q < 2 ^ 24 → Spread (x * 2 ^ 23 + q) (x + 23)
spread_normal x q lo hi =
    let four-on = units_least x (q + 4) (omega arith) (omega arith) in
    rw (units_normal x q lo (le_of_lt hi), pow-add 2 x 23, add_assoc (x * 2 ^ 23) q 4) (omega (arith, four-on))

spread_some : (b : ℕ) → 0 < b → b < 0x7f80_0000 → (m : ℕ) × (k : ℕ) × Scales b m k × Spread b k
spread_some b above_zero finite = go (ltb b (2 ^ 23)) (ltb→lt b (2 ^ 23)) (nltb→le b (2 ^ 23))
  where
    go : (t : Bool) → (T t → b < 2 ^ 23) → (T (not t) → 2 ^ 23 ≤ b) → (m : ℕ) × (k : ℕ) × Scales b m k × Spread b k
    go true low normal = (_, _, (scale_low b above_zero (low tt)).scales, spread_low b _ (omega arith))
    go false low normal =
        let at_least = normal tt in
        let x = b / 8388608 - 1 in
        let q = b % 8388608 + 8388608 in
        let b-is : x * 2 ^ 23 + q ≡ b = omega arith in
        let k-is : x + 23 ≡ b / 8388608 + 22 = omega arith in
        let spread = spread_normal x q (omega arith) (omega arith) in
        (_, _, scale_normal b at_least finite, rw (b-is, k-is) at spread)

-- ---- that is more than from one midpoint of roots to the next
-- what one of a root's last digits is worth, in units
abbrev digit : ℕ → ℕ
digit k = 2 ^ exponent k

digit_square : (k : ℕ) → 2 ^ 23 * (digit k * digit k) ≤ 2 ^ k * 2 ^ 126
digit_square k =
    let factor : 2 ^ 23 ≤ scaled_for 1 k = omega arith in
    let value = scaled_value 1 k ∙ one-mul _ ∙ pow-add 2 k 126 in
    le_trans (mul-le-mul_right (digit k * digit k) factor) (le_of_eq value)

module _ {b c m k s : ℕ} (q : ℕ) (scales : Scales b m k) (spread : Spread b k) (far : b + 4 ≤ c)
    (lo : q * q < scaled_for m k + q) (hi : scaled_for m k ≤ q * q + q) (root-c : NearestBits c s) where
  -- q has 24 digits
  in_range : (2 ^ 23 ≤ q) × (q < 2 ^ 24)
  in_range =
      let range = scaled_range m k scales.at_least scales.below in
      root_range (scaled_for m k) q range.0 range.1 lo hi

  -- four times the value of c, in square units, from below
  from_below : (4 * scaled_for m k + 2 ^ 27) * (digit k * digit k) ≤ 4 * units c * 2 ^ 149
  from_below =
      let values = le_trans spread (mul-le-mul_right (2 ^ 23) (units_le (b + 4) c far)) in
      rw (mul_assoc 4 (units c) (2 ^ 149))
      (sum (units b) (units c) (2 ^ k) (scaled_for m k) (digit k * digit k) (2 ^ 126)
      (value_at b m k scales.value) (digit_square k) (mul-le-mul_right (2 ^ 126) values))
    where
      sum : (B C K N S Z : ℕ) → B * (2 ^ 23 * Z) ≡ N * S → 2 ^ 23 * S ≤ K * Z
          → (B * 2 ^ 23 + 4 * K) * Z ≤ C * 2 ^ 23 * Z → (4 * N + 2 ^ 27) * S ≤ 4 * (C * (2 ^ 23 * Z))
      sum B C K N S Z value digit above = omega arith

  -- and from above, were its root's pattern at most that of q
  from_above : s ≤ exponent k * 2 ^ 23 + q → 4 * units c * 2 ^ 149 < (q + (q + 1)) * (q + (q + 1)) * (digit k * digit k)
  from_above g =
      let r = exponent k * 2 ^ 23 + q in
      let next : s + 1 ≤ r + 1 = omega arith in
      let midpoints = square_le (add-le-add (units_le s r g) (units_le (s + 1) (r + 1) next)) in
      let here = units_normal (exponent k) q in_range.0 (le_of_lt in_range.1) in
      let there = units_next (exponent k) q in_range.0 in_range.1 in
      rw (← pulled q (q + 1) (digit k), ← here, ← there) (lt_of_lt_of_le root-c.high midpoints)

  too_far : s ≤ exponent k * 2 ^ 23 + q → ⊥
  too_far g =
      let squares = lt_of_mul-lt-mul_right (digit k * digit k) (lt_of_le_of_lt from_below (from_above g)) in
      clash (scaled_for m k) (q * q) (rw (square_odd q) at squares) lo in_range.1
    where
      clash : (n S : ℕ) → 4 * n + 2 ^ 27 < 4 * S + 4 * q + 1 → S < n + q → q < 2 ^ 24 → ⊥
      clash n S squares lo hi = omega arith

pub bits_far : {b c r s : ℕ} → 0 < b → b < 0x7f80_0000 → NearestBits b r → NearestBits c s → b + 4 ≤ c → r < s
bits_far {b} {c} {r} {s} above_zero finite root-b root-c far =
    let scaled = spread_some b above_zero finite in
    let m = scaled.0 in
    let k = scaled.1 in
    let scales = scaled.2 in
    let range = scaled_range m k scales.at_least scales.below in
    let near = near_at (scaled_for m k) (lt_of_lt_of_le (pow_pos 46) range.0) in
    let q = near.0 in
    let lo = near.1.0 in
    let hi = near.1.1 in
    let at-most-q = bits_mono root-b (nearest_bits b m k q scales lo hi) (le_refl b) in
    lt_of_not-le (λ (g : s ≤ r). too_far q scales scaled.3 far lo hi root-c (le_trans g at-most-q))
