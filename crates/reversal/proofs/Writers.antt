-- Loops that write to an output, row after row or word after word: what holds before each turn, and what a
-- turn does.
use Prim.Native.Nat.{ℕ, suc, ◌+◌, ◌*◌, ◌/◌, ◌<◌, ◌≤◌}
use mathlib.Core.List.{List, [], ◌∷◌, ◌++◌}
use mathlib.Core.Path.{◌≡◌, refl, sym, ap, ap₂, ◌∙◌}
use native.Mathlib.Numerals.{add-one}
use native.Mathlib.Omega.{arith}
use lib.ListN.{length, get_or, set, take, drop, length-drop, length-set}
use lib.Seq.{drop-drop, get_or-drop, paste, paste-suc, paste-zero, take-length}
use Rattle.model.specs.Rows.{written}
use Rattle.words.specs.Rows.{joined, spliced}
use Rattle.words.proofs.Joins.{parts_turn, row_room, rows_begin, rows_turn, within_turn}
use Rattle.reversal.proofs.Places.{spliced_none}

-- before turn i of n: the output begins with the rows below i, and is else as it was lent
pub record Wrote {A : Type 0} (n : ℕ) (row : ℕ → List A) (lent : List A) (i : ℕ) (out : List A) : Type 0 where
  pub within : i ≤ n
  pub so_far : out ≡ written (joined i row) lent
  pub as_long : length out ≡ length lent

module _ {A : Type 0} {n : ℕ} {row : ℕ → List A} {lent : List A} where
  pub wrote_none : Wrote n row lent 0 lent
  wrote_none = record { within = omega arith; so_far = rows_begin row lent; as_long = refl }

  pub wrote_all : {i : ℕ} {out : List A} → Wrote n row lent i out → n ≤ i → out ≡ written (joined n row) lent
  wrote_all {i} wrote left =
      let past : i ≡ n = omega (arith, wrote.within) in
      wrote.so_far ∙ ap (λ (m : ℕ). written (joined m row) lent) past

  -- part i is put where those before it end
  pub wrote_part : {i at : ℕ} {out new : List A} → Wrote n row lent i out → i < n → at ≡ length (joined i row)
      → new ≡ spliced at (row i) out → at + length (row i) ≤ length lent → length new ≡ length out
      → Wrote n row lent (i + 1) new
  wrote_part {i} {at} wrote turn place put room kept = record {
    within = omega arith;
    so_far = parts_turn i at row lent place wrote.so_far put room;
    as_long = kept ∙ wrote.as_long;
  }

-- rows of w words, of a table as long as `words`
module _ {A : Type 0} (w : ℕ) {words : ℕ} {row : ℕ → List A} {lent : List A} (even : (k : ℕ) → length (row k) ≡ w)
    (room : words ≤ length lent) where
  -- row i has room
  pub row_fits : {i : ℕ} {out new : List A} → Wrote (words / w) row lent i out → i < words / w → new ≡ row i
      → i * w + length new ≤ length out
  row_fits {i} {out} {new} wrote turn is =
      let size : length new ≡ w = ap length is ∙ even i in
      let place = row_room words w i (length lent) turn room in omega (arith, wrote.as_long)

  -- and is put in its place
  pub wrote_row : {i : ℕ} {out new after : List A} → Wrote (words / w) row lent i out → i < words / w → new ≡ row i
      → after ≡ spliced (i * w) new out → length after ≡ length out → Wrote (words / w) row lent (i + 1) after
  wrote_row {i} wrote turn is put kept = record {
    within = omega arith;
    so_far = rows_turn w i row lent even wrote.so_far is put (row_room words w i (length lent) turn room);
    as_long = kept ∙ wrote.as_long;
  }

-- ---- within a part
-- before turn k of n: the rows below k stand from word `at` on, and all else is as it was lent
pub record WroteAt {A : Type 0} (at n : ℕ) (row : ℕ → List A) (lent : List A) (k : ℕ) (out : List A) : Type 0 where
  pub within : k ≤ n
  pub so_far : out ≡ spliced at (joined k row) lent
  pub as_long : length out ≡ length lent

module _ {A : Type 0} {at n : ℕ} {row : ℕ → List A} {lent : List A} where
  pub wrote_at_none : WroteAt at n row lent 0 lent
  wrote_at_none = record { within = omega arith; so_far = spliced_none at row lent; as_long = refl }

  pub wrote_at_all : {k : ℕ} {out : List A} → WroteAt at n row lent k out → n ≤ k → out ≡ spliced at (joined n row) lent
  wrote_at_all {k} wrote left =
      let past : k ≡ n = omega (arith, wrote.within) in
      wrote.so_far ∙ ap (λ (m : ℕ). spliced at (joined m row) lent) past

  -- row k of w words
  pub wrote_at_row : (w : ℕ) {k here : ℕ} {out new after : List A} → ((j : ℕ) → length (row j) ≡ w)
      → WroteAt at n row lent k out → k < n → new ≡ row k → here ≡ at + k * w → after ≡ spliced here new out
      → at + k * w + w ≤ length lent → length after ≡ length out → WroteAt at n row lent (k + 1) after
  wrote_at_row w {k} even wrote turn is place put room kept = record {
    within = omega arith;
    so_far = within_turn w at k row lent even wrote.so_far is place put room;
    as_long = kept ∙ wrote.as_long;
  }

-- ---- word by word
-- before turn k: the first k words of a row stand from word `at` on, and all else is as it was lent
pub record Pasted (at : ℕ) (row lent : List ℕ) (k : ℕ) (out : List ℕ) : Type 0 where
  pub within : k ≤ length row
  pub so_far : out ≡ paste lent at row k
  pub as_long : length out ≡ length lent

module _ {at : ℕ} {row lent : List ℕ} where
  pub pasted_none : Pasted at row lent 0 lent
  pasted_none = record { within = omega arith; so_far = paste-zero lent at row; as_long = refl }

  pub pasted_word : {k x : ℕ} {out : List ℕ} → Pasted at row lent k out → k < length row → x ≡ get_or row k 0
      → at + k < length lent → Pasted at row lent (k + 1) (set out (at + k) x)
  pasted_word {k} {x} {out} pasted turn is room = record {
    within = omega arith;
    so_far = ap₂ (λ (o : List ℕ) (v : ℕ). set o (at + k) v) pasted.so_far is
        ∙ paste-suc lent at row k 0 room turn
        ∙ ap (paste lent at row) (sym (add-one k));
    as_long = length-set out (at + k) x ∙ pasted.as_long;
  }

  pub pasted_all : {k : ℕ} {out : List ℕ} → Pasted at row lent k out → length row ≤ k → out ≡ spliced at row lent
  unfolding spliced
  pasted_all {k} pasted left =
      let past : k ≡ length row = omega (arith, pasted.within) in
      pasted.so_far
      ∙ ap (paste lent at row) past
      ∙ ap (λ (l : List ℕ). take at lent ++ l ++ drop (at + length row) lent) (take-length row)

-- ---- pair by pair
-- pair n of a list, where it is what is left after n pairs
pub pair_next : (xs : List ℕ) (n : ℕ) {rest more : List ℕ} (pair : List ℕ) → rest ≡ drop (n * 2) xs
    → rest ≡ pair ++ more → length pair ≡ 2
    → (n < length xs / 2) × (get_or pair 0 0 ≡ get_or xs (n * 2) 0) × (get_or pair 1 0 ≡ get_or xs (n * 2 + 1) 0)
    × (more ≡ drop ((n + 1) * 2) xs)
pair_next xs n [] left cut two = absurd (let z : ◌≡◌ {A = ℕ} 0 2 = two in omega arith)
pair_next xs n (a ∷ []) left cut two = absurd (let z : ◌≡◌ {A = ℕ} 1 2 = two in omega arith)
pair_next xs n {more = more} (a ∷ b ∷ []) left cut two =
    let e : a ∷ b ∷ more ≡ drop (n * 2) xs = sym cut ∙ left in
    let size : suc (suc (length more)) ≡ length (drop (n * 2) xs) = ap length e in
    let turn : n < length xs / 2 = omega (arith, size, length-drop (n * 2) xs) in
    let first : n * 2 + 0 ≡ n * 2 = omega arith in
    let past : n * 2 + 2 ≡ (n + 1) * 2 = omega arith in (
      turn,
      ap (λ (l : List ℕ). get_or l 0 0) e
          ∙ get_or-drop (n * 2) xs 0 0
          ∙ ap (λ (k : ℕ). get_or xs k 0) first,
      ap (λ (l : List ℕ). get_or l 1 0) e ∙ get_or-drop (n * 2) xs 1 0,
      ap (drop 2) e ∙ drop-drop 2 (n * 2) xs ∙ ap (λ (k : ℕ). drop k xs) past,
    )
pair_next xs n (a ∷ b ∷ c ∷ cs) left cut two = absurd (let z : suc (suc (suc (length cs))) ≡ 2 = two in omega arith)

-- and none is left
pub pairs_end : (xs : List ℕ) (n : ℕ) {rest : List ℕ} → rest ≡ drop (n * 2) xs → length rest < 2 → length xs / 2 ≤ n
pairs_end xs n left few = omega (arith, few, ap length left, length-drop (n * 2) xs)
