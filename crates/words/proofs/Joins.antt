-- Rows joined one after the other, as a loop writes them.
use Prim.Native.Nat.{ℕ, zero, suc, ◌+◌, ◌*◌, ◌/◌, ◌<◌, ◌≤◌}
use mathlib.Core.List.{List, [], ◌∷◌, ◌++◌, append_assoc, append-nil}
use mathlib.Core.Path.{◌≡◌, refl, sym, ap, ap₂, ◌∙◌, subst}
use mathlib.Core.Logic.{⊎_elim}
use native.Mathlib.Nat.{eq-or-lt_of_le, le_of_suc-le-suc, le_refl, le_step, mul-suc, suc-mul, zero-mul}
use native.Mathlib.Numerals.{add-one}
use native.Mathlib.Omega.{arith}
use lib.ListN.{length, get_or, length-append}
use Rattle.model.specs.Lists.{gather}
use Rattle.model.specs.Rows.{written}
use Rattle.laws.proofs.WordsReversed.{gather_append}
use Rattle.words.specs.Rows.{joined, spliced, tab}
use Rattle.words.proofs.KeyLaws.{rows_in}
use Rattle.words.proofs.Laws.{put_step, spliced_twice, written_none}
use Rattle.words.proofs.Scans.{row_fits}

module _ {A : Type 0} where
  pub joined_none : (f : ℕ → List A) → joined 0 f ≡ []
  unfolding joined
  joined_none f = refl

  pub joined_more : (n : ℕ) (f : ℕ → List A) → joined (n + 1) f ≡ joined n f ++ f n
  unfolding joined
  joined_more n f = rw add-one

  pub joined_same : (n : ℕ) (f g : ℕ → List A) → ((i : ℕ) → i < n → f i ≡ g i) → joined n f ≡ joined n g
  unfolding joined
  joined_same zero f g h = refl
  joined_same (suc n) f g h =
      ap₂ {C = List A} (λ a b. a ++ b) (joined_same n f g (λ i lt. h i (le_step lt))) (h n (le_refl (suc n)))

  -- the first apart
  pub joined_first : (n : ℕ) (f : ℕ → List A) → joined (suc n) f ≡ f 0 ++ joined n (λ i. f (suc i))
  unfolding joined
  joined_first zero f = sym (append-nil (f 0))
  joined_first (suc n) f =
      ap (λ (l : List A). l ++ f (suc n)) (joined_first n f)
      ∙ append_assoc (f 0) (joined n (λ i. f (suc i))) (f (suc n))

  -- rows of one width
  pub joined_even : (w n : ℕ) (f : ℕ → List A) → ((i : ℕ) → length (f i) ≡ w) → length (joined n f) ≡ n * w
  unfolding joined
  joined_even w zero f h = sym (zero-mul w)
  joined_even w (suc n) f h =
      let a = length-append (joined n f) (f n) in
      let b = h n in let c = joined_even w n f h in let d = suc-mul n w in omega arith

  pub joined_le : (n m : ℕ) (f : ℕ → List A) → n ≤ m → length (joined n f) ≤ length (joined m f)
  unfolding joined
  joined_le n zero f h = let e : n ≡ 0 = omega arith in rw e (le_refl 0)
  joined_le n (suc m) f h =
      ⊎_elim (λ q.
      subst (λ (k : ℕ). length (joined k f) ≤ length (joined m f ++ f m)) (sym q)
      (le_refl (length (joined m f ++ f m))))
      (λ lt.
      let ih = joined_le n m f (le_of_suc-le-suc lt) in let e = length-append (joined m f) (f m) in omega arith)
      (eq-or-lt_of_le h)

  -- each of at most w words
  pub joined_most : (w n : ℕ) (f : ℕ → List A) → ((i : ℕ) → length (f i) ≤ w) → length (joined n f) ≤ w * n
  unfolding joined
  joined_most w zero f h = let e : 0 ≤ w * 0 = omega arith in e
  joined_most w (suc n) f h =
      let a = length-append (joined n f) (f n) in
      let b = h n in let ih = joined_most w n f h in let e = mul-suc w n in omega arith

  -- a loop over rows begins, and takes a turn
  pub rows_begin : (f : ℕ → List A) (out : List A) → out ≡ written (joined 0 f) out
  rows_begin f out = sym (ap (λ (l : List A). written l out) (joined_none f) ∙ written_none out)

  pub rows_turn : (w i : ℕ) (f : ℕ → List A) (old : List A) {row out new : List A}
      → ((k : ℕ) → length (f k) ≡ w) → out ≡ written (joined i f) old → row ≡ f i
      → new ≡ spliced (i * w) row out → i * w + w ≤ length old → new ≡ written (joined (i + 1) f) old
  rows_turn w i f old {row} {out} {new} even so_far is put room =
      put_step (joined i f) (f i) old so_far (put ∙ ap (λ (l : List A). spliced (i * w) l out) is)
      (sym (joined_even w i f even)) (joined_more i f) (let long = even i in omega arith)

  -- the parts of a table: each is put where those before it end
  pub parts_turn : (i at : ℕ) (f : ℕ → List A) (old : List A) {out new : List A} → at ≡ length (joined i f)
      → out ≡ written (joined i f) old → new ≡ spliced at (f i) out → at + length (f i) ≤ length old
      → new ≡ written (joined (i + 1) f) old
  parts_turn i at f old here so_far put room = put_step (joined i f) (f i) old so_far put here (joined_more i f) room

  -- the same within a part
  pub within_turn : (w at k : ℕ) (f : ℕ → List A) (old : List A) {row out new : List A} {here : ℕ}
      → ((k : ℕ) → length (f k) ≡ w) → out ≡ spliced at (joined k f) old → row ≡ f k → here ≡ at + k * w
      → new ≡ spliced here row out → at + k * w + w ≤ length old → new ≡ spliced at (joined (k + 1) f) old
  within_turn w at k f old {row} {out} {new} {here} even so_far is at-is put room =
      let before = joined_even w k f even in
      let long = even k in
      put
      ∙ ap₂ (λ (a : ℕ) (o : List A). spliced a row o) (at-is ∙ ap (λ (m : ℕ). at + m) (sym before)) so_far
      ∙ ap (λ (x : List A). spliced (at + length (joined k f)) x (spliced at (joined k f) old)) is
      ∙ spliced_twice at (joined k f) (f k) old (omega arith)
      ∙ ap (λ (x : List A). spliced at x old) (sym (joined_more k f))

-- room for row i, where the output has room for the table
pub row_room : (len w i out : ℕ) → i < len / w → len ≤ out → i * w + w ≤ out
row_room len w i out h l = let a = row_fits (len / w) w i h in let b = rows_in len w in omega arith

pub gather_tab : {X B : Type 0} (g : X → List B) (n : ℕ) (f : ℕ → X) → gather g (tab n f) ≡ joined n (λ i. g (f i))
unfolding tab joined
gather_tab g zero f = refl
gather_tab {B = B} g (suc n) f =
    gather_append g (tab n f) (f n ∷ [])
    ∙ ap₂ {C = List B} (λ a b. a ++ b) (gather_tab g n f) (append-nil (g (f n)))

pub joined_gather : {A B : Type 0} (g : A → List B) (n : ℕ) (f : ℕ → List A)
    → gather g (joined n f) ≡ joined n (λ i. gather g (f i))
unfolding joined
joined_gather g zero f = refl
joined_gather g (suc n) f = gather_append g (joined n f) (f n) ∙ ap (λ l. l ++ gather g (f n)) (joined_gather g n f)

-- the lists of a list's elements
pub gather_all : {X B : Type 0} (g : X → List B) (d : X) (xs : List X)
    → gather g xs ≡ joined (length xs) (λ k. g (get_or xs k d))
gather_all g d [] = sym (joined_none (λ k. g (get_or [] k d)))
gather_all {B = B} g d (x ∷ xs) =
    ap (λ (l : List B). g x ++ l) (gather_all g d xs)
    ∙ sym (joined_first (length xs) (λ k. g (get_or (x ∷ xs) k d)))
