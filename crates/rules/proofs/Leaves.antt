-- A target that is absent: its flag and its other six words.
use Prim.Native.Nat.{ℕ, zero, suc, ◌+◌, ◌<◌, ◌≤◌}
use mathlib.Core.Path.{◌≡◌, refl, sym, ap, ◌∙◌, ap₂}
use mathlib.Core.List.{List, [], ◌∷◌}
use mathlib.Core.Bool.{Bool, true, false, ◌&&◌}
use native.Mathlib.Nat.{add-suc, add-zero}
use native.Mathlib.Omega.{arith}
use lib.ListN.{length, get_or, take, drop}
use lib.Seq.{drop-cons}
use lib.Dec.{eqb, leb}
use lib.Pointwise.{pointwise}
use borrow.Author.Tests.{eqb-true, eqb-false, ne_eqb, le-leb, lt-leb}
use Rattle.std.proofs.Math.Bool.{and-true, and_assoc}
use Rattle.model.specs.Rules.{target_worded}
use Rattle.rules.specs.ByRow.{target_fits}

pub both_is : {r a b x y : Bool} → r ≡ (a && b) → a ≡ x → b ≡ y → r ≡ (x && y)
both_is e f g = e ∙ ap₂ ◌&&◌ f g

-- n words of a row, from word at + k on
abbrev words_from : List ℕ → ℕ → ℕ → ℕ → List ℕ
words_from ws at zero k = []
words_from ws at (suc n) k = get_or ws (at + k) 0 ∷ words_from ws at n (suc k)

take_words : (ws : List ℕ) (at n k : ℕ) → at + k + n ≤ length ws → take n (drop (at + k) ws) ≡ words_from ws at n k
take_words ws at zero k h = refl
take_words ws at (suc n) k h =
    ap (take (suc n)) (drop-cons ws (at + k) 0 (omega arith))
    ∙ ap (λ l. get_or ws (at + k) 0 ∷ l)
    (ap (λ m. take n (drop m ws)) (sym (add-suc at k)) ∙ take_words ws at n (suc k) (omega arith))

-- a flag that isn't 1
off_flag : (p : ℕ) → (p ≡ 1 → ⊥) → leb p 1 ≡ eqb p 0
off_flag p h = go (eqb p 0) refl
  where
    go : (b : Bool) → eqb p 0 ≡ b → leb p 1 ≡ b
    go true e = let z = eqb-true p 0 e in le-leb p 1 (omega arith)
    go false e = lt-leb p 1 (low p h (eqb-false p 0 e))
      where
        low : (p : ℕ) → (p ≡ 1 → ⊥) → (p ≡ 0 → ⊥) → 1 < p
        low p h k = omega arith

pub absent_target : (text ws : List ℕ) (at : ℕ) {n : ℕ} {r : Bool} → at + 6 < length ws → (get_or ws at 0 ≡ 1 → ⊥)
    → n ≡ 7 → r ≡ pointwise eqb (take n (drop at ws)) (0 ∷ 0 ∷ 0 ∷ 0 ∷ 0 ∷ 0 ∷ 0 ∷ []) → r ≡ target_fits text ws at
unfolding target_worded
absent_target text ws at room absent seven is =
    let words : take 7 (drop at ws) ≡ get_or ws at 0 ∷ words_from ws at 6 1 =
    ap (λ m. take 7 (drop m ws)) (sym (add-zero at)) ∙ take_words ws at 7 0 (omega arith)
    ∙ ap (λ m. get_or ws m 0 ∷ words_from ws at 6 1) (add-zero at) in
    (rw (seven, words) at is)
    ∙ rw (off_flag (get_or ws at 0) absent, ne_eqb (get_or ws at 0) 1 absent) (simp (and_assoc, and-true))
