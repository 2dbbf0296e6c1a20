-- Rows by number: what a loop over rows has written, and the outcome of a call that writes one table.
use Prim.Native.Nat.{ℕ, zero, suc, ◌+◌, ◌*◌, ◌/◌, ◌<◌, ◌≤◌}
use mathlib.Core.Path.{◌≡◌, refl, sym, ap, ◌∙◌}
use mathlib.Core.List.{List, [], ◌∷◌, ◌++◌, append_assoc, append-nil}
use mathlib.Core.Option.{none}
use native.Mathlib.Nat.{add-zero, suc-mul, zero-mul, mul-div_cancel}
use native.Mathlib.Numerals.{add-one}
use native.Mathlib.Omega.{arith}
use lib.ListN.{length, drop, length-append}
use lib.Seq.{drop-drop}
use Rattle.model.specs.Calls.{called, outcome, refused, table_writing, wrote}
use Rattle.model.specs.Lists.{gather}
use Rattle.model.specs.Reading.{part_rows, row_at}
use Rattle.model.specs.Rows.{rows, table, written}
use Rattle.model.specs.Rules.{Rule, first_broken}
use Rattle.tables.proofs.Called.{all_written, call_admitted, one_fits, one_short, too_short}
use Rattle.words.specs.Rows.{spliced}
use Rattle.words.proofs.Laws.{put_step, written_none}
use Rattle.words.proofs.Scans.{row_fits}

-- row i of n has room in an output that has room for all
pub row_room : {i n l : ℕ} (w : ℕ) → i < n → n * w ≤ l → i * w + w ≤ l
row_room {i} {n} w inside room = omega (arith, row_fits n w i inside)

-- ---- rows of a part
pub part_length : (a n : ℕ) → length (part_rows a n) ≡ n
part_length a zero = refl
part_length a (suc n) = ap suc (part_length (suc a) n)

module _ {A : Type 0} (f : ℕ → List A) where
  -- one row more
  pub part_more : (a n : ℕ) → gather f (part_rows a (n + 1)) ≡ gather f (part_rows a n) ++ f (a + n)
  part_more a n = ap (λ (m : ℕ). gather f (part_rows a m)) (add-one n) ∙ go a n
    where
      go : (a n : ℕ) → gather f (part_rows a (suc n)) ≡ gather f (part_rows a n) ++ f (a + n)
      go a zero = append-nil (f a) ∙ ap f (sym (add-zero a))
      go a (suc n) =
          ap (λ (l : List A). f a ++ l)
          (go (suc a) n
          ∙ ap (λ (m : ℕ). gather f (part_rows (suc a) n) ++ f m)
          (let e : suc a + n ≡ a + suc n = omega arith in e))
          ∙ sym (append_assoc (f a) (gather f (part_rows (suc a) n)) (f (a + suc n)))

  -- the row after the n first ones
  pub part_next : (n : ℕ) → gather f (part_rows 0 n) ++ f n ≡ gather f (part_rows 0 (n + 1))
  part_next n =
      let from_front : 0 + n ≡ n = omega arith in
      sym (part_more 0 n ∙ ap (λ (m : ℕ). gather f (part_rows 0 n) ++ f m) from_front)

  pub part_even : (w : ℕ) → ((k : ℕ) → length (f k) ≡ w) → (a n : ℕ) → length (gather f (part_rows a n)) ≡ n * w
  part_even w h a zero = sym (zero-mul w)
  part_even w h a (suc n) =
      let joined = length-append (f a) (gather f (part_rows (suc a) n)) in
      omega (arith, h a, part_even w h (suc a) n, suc-mul n w)

  -- a loop over rows of one width begins, and takes a turn
  pub rows_begin : (out : List A) → out ≡ written (gather f (part_rows 0 0)) out
  rows_begin out = sym (written_none out)

  pub rows_turn : (w i : ℕ) (out₀ : List A) {row out out' : List A} → ((k : ℕ) → length (f k) ≡ w)
      → out ≡ written (gather f (part_rows 0 i)) out₀ → row ≡ f i → out' ≡ spliced (i * w) row out
      → i * w + w ≤ length out₀ → out' ≡ written (gather f (part_rows 0 (i + 1))) out₀
  rows_turn w i out₀ {row} {out} {out'} even e r p h =
      put_step (gather f (part_rows 0 i)) (f i) out₀ e (p ∙ ap (λ (l : List A). spliced (i * w) l out) r)
      (sym (part_even w even 0 i))
      (sym (part_next i))
      (let z = even i in omega arith)

-- a table's rows are those of its numbers
pub numbered_rows : {A : Type 0} (f : List ℕ → List A) (w : ℕ) (ws : List ℕ)
    → gather f (table w ws) ≡ gather (λ k. f (row_at w ws k)) (part_rows 0 (length ws / w))
unfolding table
numbered_rows {A} f w ws =
    ap (λ (l : List ℕ). gather f (rows w (length ws / w) l)) (sym (ap (λ (m : ℕ). drop m ws) (zero-mul w)))
    ∙ go (length ws / w) 0
  where
    go : (n i : ℕ) → gather f (rows w n (drop (i * w) ws)) ≡ gather (λ k. f (row_at w ws k)) (part_rows i n)
    go zero i = refl
    go (suc n) i =
        ap (λ (l : List A). f (row_at w ws i) ++ l)
        (ap (λ (l : List ℕ). gather f (rows w n l))
        (drop-drop w (i * w) ws
        ∙ ap (λ (m : ℕ). drop m ws) (let e = suc-mul i w in let z : i * w + w ≡ suc i * w = omega arith in z))
        ∙ go n (suc i))

-- ---- a call that writes one table of n rows of w words, from what its checks answer
module _ (w : ℕ) (rules : List Rule) (content out : List ℕ) (n : ℕ) (wide : length content ≡ n * w)
    (first : none ≡ first_broken rules) where
  pub table_short : length out < n * w → outcome (refused 9) out ≡ called (table_writing w) rules content out
  table_short short =
      too_short (table_writing w) content out (one_short content out (omega arith))
      ∙ call_admitted (table_writing w) rules content out first

  pub table_written : {after : List ℕ} → 0 < w → n * w ≤ length out → after ≡ written content out
      → outcome (wrote (n ∷ [])) after ≡ called (table_writing w) rules content out
  table_written positive room put =
      let rows : n ≡ length content / w = sym (ap (λ (m : ℕ). m / w) wide ∙ mul-div_cancel n positive) in
      all_written (table_writing w) content out (one_fits content out (omega arith)) (ap (λ (k : ℕ). k ∷ []) rows) put
      ∙ call_admitted (table_writing w) rules content out first
