-- Attributes by the words of a table and of its rows.
use Prim.Native.Nat.{ℕ, zero, suc, ◌+◌, ◌*◌, ◌<◌}
use mathlib.Core.Path.{◌≡◌, refl, sym, ap, ap₂, ◌∙◌}
use mathlib.Core.List.{List}
use mathlib.Core.Bool.{Bool, ◌&&◌, and-true, and_assoc, cond}
use native.Mathlib.Omega.{arith}
use lib.Dec.{eqb}
use lib.ListN.{get_or, drop}
use lib.Pointwise.{pointwise}
use lib.Seq.{get_or-drop, get_or-take}
use Rattle.model.specs.Reading.{row_at}
use Rattle.model.specs.ReadingCalls.{name_worded, names_worded}
use Rattle.model.specs.Records.{Span}
use Rattle.model.specs.Text.{bytes_of, equal_bytes}
use Rattle.words.specs.Rows.{all, span}
use Rattle.words.proofs.KeyLaws.{pointwise_is}
use Rattle.words.proofs.Scans.{all_same}
use mathlib.Core.Option.{none, some}
use native.Mathlib.Nat.{add_assoc}
use Rattle.model.specs.Tables.{is_absent, name_in}

-- a row's words are the table's
pub word_of : (w k : ℕ) (ws : List ℕ) (j : ℕ) → j < w → get_or (row_at w ws k) j 0 ≡ get_or ws (k * w + j) 0
word_of w k ws j h = get_or-take w (drop (k * w) ws) j 0 h ∙ get_or-drop (k * w) ws j 0

-- and its names
pub name_of : (w k : ℕ) (ws : List ℕ) (j : ℕ) → j + 1 < w → name_in (row_at w ws k) j ≡ name_in ws (k * w + j)
name_of w k ws j h =
    ap₂ (λ (s n : ℕ). cond (is_absent s n) none (some (span s n))) (word_of w k ws j (omega arith))
    (word_of w k ws (j + 1) h ∙ ap (λ (m : ℕ). get_or ws m 0) (sym (add_assoc (k * w) j 1)))

-- and a word of the row, as it is read
pub word_at : (w k : ℕ) (ws : List ℕ) (j : ℕ) {row : List ℕ} {n : ℕ} → j < w → row ≡ row_at w ws k
    → n ≡ get_or row j 0 → n ≡ get_or ws (k * w + j) 0
word_at w k ws j below row_is is = is ∙ ap (λ (r : List ℕ). get_or r j 0) row_is ∙ word_of w k ws j below

-- what `==` answers of a name's bytes and of others
pub bytes_are : (text : List ℕ) (n : Span) (bytes : List ℕ) {a : List ℕ} {r : Bool} → r ≡ pointwise eqb a bytes
    → a ≡ bytes_of text n → r ≡ equal_bytes (bytes_of text n) bytes
bytes_are text n bytes {a} is named =
    is ∙ pointwise_is a bytes ∙ ap (λ (l : List ℕ). equal_bytes l bytes) named

-- ---- 2
-- a test of all numbers below n + 1 is that of 0 and of those after it
all_first : (n : ℕ) (p : ℕ → Bool) → all (suc n) p ≡ (p 0 && all n (λ i. p (suc i)))
unfolding all
all_first zero p = sym (and-true (p 0))
all_first (suc n) p =
    ap (λ b. b && p (suc n)) (all_first n p) ∙ and_assoc (p 0) (all n (λ i. p (suc i))) (p (suc n))

-- names one after the other, by number
pub names_all : (text : List ℕ) (n : ℕ) (ws : List ℕ) (at : ℕ)
    → names_worded text n ws at ≡ all n (λ i. name_worded text ws (at + i * 2))
unfolding all
names_all text zero ws at = refl
names_all text (suc n) ws at =
    let here : at ≡ at + 0 * 2 = omega arith in
    ap₂ ◌&&◌ (ap (name_worded text ws) here)
    (names_all text n ws (at + 2)
    ∙ all_same n (λ i. name_worded text ws (at + 2 + i * 2)) (λ i. name_worded text ws (at + suc i * 2))
    (λ i below. let e : at + 2 + i * 2 ≡ at + suc i * 2 = omega arith in ap (name_worded text ws) e))
    ∙ sym (all_first n (λ i. name_worded text ws (at + i * 2)))
