-- Lane numbers, byte by byte.
use Prim.Native.Nat.{ℕ, suc, ◌+◌, ◌*◌, ◌-◌, ◌<◌}
use mathlib.Core.Path.{◌≡◌, refl, sym, ap, ◌∙◌}
use mathlib.Core.List.{List, [], ◌∷◌}
use mathlib.Core.Bool.{Bool, true, false, cond}
use mathlib.Core.Option.{none, some}
use native.Mathlib.Numerals.{add-one}
use native.Mathlib.Omega.{arith}
use lib.ListN.{length, get_or, drop}
use lib.Seq.{drop-cons}
use borrow.Author.Tests.{lt-leb, ne_eqb}
use Rattle.model.specs.Lists.{map_o}
use Rattle.model.specs.Reversal.{negated}
use Rattle.model.specs.Reading.{digits, digits_from, is_digit, lane_number, up_to}

-- ---- digits
pub digits_step : (v i : ℕ) (bytes : List ℕ) → i < length bytes
    → digits_from v (drop i bytes)
    ≡ cond (is_digit (get_or bytes i 0)) (digits_from (v * 10 + (get_or bytes i 0 - 48)) (drop (i + 1) bytes)) none
digits_step v i bytes h =
    ap (digits_from v) (drop-cons bytes i 0 h)
    ∙ ap (λ (k : ℕ).
    cond (is_digit (get_or bytes i 0)) (digits_from (v * 10 + (get_or bytes i 0 - 48)) (drop k bytes)) none)
    (sym (add-one i))

-- one digit more
pub digits_on : (start v i : ℕ) (bytes : List ℕ) {v' : ℕ} → i < length bytes
    → digits (drop start bytes) ≡ digits_from v (drop i bytes) → is_digit (get_or bytes i 0) ≡ true
    → v' ≡ v * 10 + (get_or bytes i 0 - 48) → digits (drop start bytes) ≡ digits_from v' (drop (i + 1) bytes)
digits_on start v i bytes h e d f =
    e
    ∙ digits_step v i bytes h
    ∙ ap (λ (b : Bool). cond b (digits_from (v * 10 + (get_or bytes i 0 - 48)) (drop (i + 1) bytes)) none) d
    ∙ ap (λ (k : ℕ). digits_from k (drop (i + 1) bytes)) (sym f)

-- past the limit no more digits help
past : (most v : ℕ) (bs : List ℕ) → most < v → up_to most (digits_from v bs) ≡ none
past most v [] h = ap (λ (b : Bool). cond b (some v) none) (lt-leb v most h)
past most v (b ∷ bs) h = go (is_digit b) (past most (v * 10 + (b - 48)) bs (omega arith))
  where
    go : (t : Bool) → up_to most (digits_from (v * 10 + (b - 48)) bs) ≡ none
        → up_to most (cond t (digits_from (v * 10 + (b - 48)) bs) none) ≡ none
    go true e = e
    go false e = refl

digits_past : (most v i : ℕ) (bytes : List ℕ) → digits bytes ≡ digits_from v (drop i bytes) → most < v
    → none ≡ up_to most (digits bytes)
digits_past most v i bytes e h = sym (ap (up_to most) e ∙ past most v (drop i bytes) h)

-- one digit more is past it
pub digits_over : (most v i : ℕ) (bytes : List ℕ) → i < length bytes → digits bytes ≡ digits_from v (drop i bytes)
    → is_digit (get_or bytes i 0) ≡ true → most < v * 10 + (get_or bytes i 0 - 48)
    → none ≡ up_to most (digits bytes)
digits_over most v i bytes h e digit over =
    digits_past most (v * 10 + (get_or bytes i 0 - 48)) (i + 1) bytes (digits_on 0 v i bytes h e digit refl) over

-- "one or more"
pub digits_begin : (start : ℕ) (bytes : List ℕ) → start < length bytes
    → digits (drop start bytes) ≡ digits_from 0 (drop start bytes)
digits_begin start bytes h =
    ap digits (drop-cons bytes start 0 h) ∙ sym (ap (digits_from 0) (drop-cons bytes start 0 h))

-- ---- the sign
pub number_none : (bytes : List ℕ) → length bytes ≡ 0 → none ≡ lane_number bytes
unfolding lane_number
number_none [] e = refl
number_none (b ∷ bs) e = absurd (let z : suc (length bs) ≡ 0 = e in omega arith)

module _ {bytes rest : List ℕ} {sign : ℕ} (parts : bytes ≡ sign ∷ rest) where
  pub number_minus : sign ≡ 45 → map_o negated (up_to 2147483648 (digits rest)) ≡ lane_number bytes
  unfolding lane_number
  number_minus e = rw (parts, e) refl

  pub number_plus : sign ≡ 43 → up_to 2147483647 (digits rest) ≡ lane_number bytes
  unfolding lane_number
  number_plus e = rw (parts, e) refl

  pub number_plain : (sign ≡ 45 → ⊥) → (sign ≡ 43 → ⊥) → up_to 2147483647 (digits bytes) ≡ lane_number bytes
  unfolding lane_number
  number_plain m p = rw (parts, ne_eqb sign 45 m, ne_eqb sign 43 p) refl
