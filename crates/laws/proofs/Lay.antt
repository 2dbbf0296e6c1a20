-- Laws of rows and parts: a table is known by its rows, and parts put one after the other are read back.
use mathlib.Core.Path.{◌≡◌, refl, sym, ◌∙◌, ap, ap₂}
use mathlib.Core.Bool.{true}
use mathlib.Core.List.{List, [], ◌∷◌, ◌++◌, map, append_assoc}
use Prim.Native.Nat.{ℕ, zero, suc, ◌+◌, ◌*◌, ◌/◌, ◌%◌, ◌<◌, ◌≤◌}
use native.Mathlib.Nat.{mul-div_cancel, suc-mul, zero-mul, div-add-mod'}
use native.Mathlib.Omega.{arith}
use lib.Dec.{eqb}
use lib.ListN.{length, take, drop, length-append, length-drop, take-append-drop}
use lib.Seq.{take_at, drop_at, take-add, take_all, take-append_seam, length-take-le, drop-drop, drop-length}
use borrow.Author.Tests.{eqb-true, eq-eqb}
use Rattle.model.specs.Lists.{gather}
use Rattle.model.specs.Rows.{part, parts_fit, rows, rows_from, table, word, written}
use Rattle.laws.proofs.ListTests.{and_both, and_left, and_right}
use Rattle.laws.proofs.Valid.{Each}

pub whole_rows : (w n : ℕ) → n % w ≡ 0 → n / w * w ≡ n
whole_rows w n e = omega (arith, div-add-mod' n w)

-- ---- a table and its rows
module _ {A : Type 0} where
  pub gather_rows : (w n : ℕ) (ws : List A) → gather (λ r. r) (rows w n ws) ≡ take (n * w) ws
  gather_rows w zero ws = ap (λ (k : ℕ). take k ws) (sym (zero-mul w))
  gather_rows w (suc n) ws =
      ap (λ (l : List A). take w ws ++ l) (gather_rows w n (drop w ws))
      ∙ sym (take-add w (n * w) ws)
      ∙ (let one-row-more = suc-mul n w in
      let words : w + n * w ≡ suc n * w = omega arith in
      ap (λ (k : ℕ). take k ws) words)

  pub gather_table : (w : ℕ) (ws : List A) → length ws % w ≡ 0 → gather (λ r. r) (table w ws) ≡ ws
  unfolding table
  gather_table w ws e =
      gather_rows w (length ws / w) ws
      ∙ take_all (length ws / w * w) ws (omega (arith, whole_rows w (length ws) e))

  rows_width : (w n : ℕ) (ws : List A) → n * w ≤ length ws → Each (λ r. length r ≡ w) (rows w n ws)
  rows_width w zero ws h = tt
  rows_width w (suc n) ws h =
      let one-row-more = suc-mul n w in
      (length-take-le w ws (omega arith), rows_width w n (drop w ws) (omega (arith, length-drop w ws)))

  pub table_width : (w : ℕ) (ws : List A) → length ws % w ≡ 0 → Each (λ r. length r ≡ w) (table w ws)
  unfolding table
  table_width w ws e = rows_width w (length ws / w) ws (omega (arith, whole_rows w (length ws) e))

  pub length_rows : (w n : ℕ) (ws : List A) → length (rows w n ws) ≡ n
  length_rows w zero ws = refl
  length_rows w (suc n) ws = ap suc (length_rows w n (drop w ws))

  pub length_table : (w : ℕ) (ws : List A) → length (table w ws) ≡ length ws / w
  unfolding table
  length_table w ws = length_rows w (length ws / w) ws

  -- rows put one after the other
  module _ {X : Type 0} (w : ℕ) (f : X → List A) where
    pub length_even : (xs : List X) → Each (λ x. length (f x) ≡ w) xs → length (gather f xs) ≡ length xs * w
    length_even [] h = sym (zero-mul w)
    length_even (x ∷ xs) h =
        omega (arith, length-append (f x) (gather f xs), h.0, length_even xs h.1, suc-mul (length xs) w)

    rows_even : (xs : List X) → Each (λ x. length (f x) ≡ w) xs → rows w (length xs) (gather f xs) ≡ map f xs
    rows_even [] h = refl
    rows_even (x ∷ xs) h =
        ap₂ {C = List (List A)} (λ a l. a ∷ l) (take_at (f x) (gather f xs) w h.0)
        (ap (λ (l : List A). rows w (length xs) l) (drop_at (f x) (gather f xs) w h.0) ∙ rows_even xs h.1)

    pub table_even : (xs : List X) → 0 < w → Each (λ x. length (f x) ≡ w) xs → table w (gather f xs) ≡ map f xs
    unfolding table
    table_even xs p h =
        ap (λ (k : ℕ). rows w k (gather f xs))
        (ap (λ (k : ℕ). k / w) (length_even xs h) ∙ mul-div_cancel (length xs) p)
        ∙ rows_even xs h

  pub take_written : (content out : List A) (n : ℕ) → n ≡ length content → take n (written content out) ≡ content
  unfolding written
  take_written content out n e = take_at content (drop (length content) out) n (sym e)

-- the rows with the places of their parts, as a list
abbrev pub row_list : {X A : Type 0} → (ℕ → X → List ℕ) → (X → List A) → ℕ → List X → List (List ℕ)
row_list row f i [] = []
row_list row f i (x ∷ xs) = row i x ∷ row_list row f (i + length (f x)) xs

module _ {X A : Type 0} (w : ℕ) (row : ℕ → X → List ℕ) (f : X → List A)
    (width : (i : ℕ) (x : X) → length (row i x) ≡ w) where
  pub length_rows_from : (i : ℕ) (xs : List X) → length (rows_from row f i xs) ≡ length xs * w
  length_rows_from i [] = sym (zero-mul w)
  length_rows_from i (x ∷ xs) =
      omega (
        arith,
        length-append (row i x) (rows_from row f (i + length (f x)) xs),
        width i x,
        length_rows_from (i + length (f x)) xs,
        suc-mul (length xs) w,
      )

  rows_from_lem : (i : ℕ) (xs : List X) → rows w (length xs) (rows_from row f i xs) ≡ row_list row f i xs
  rows_from_lem i [] = refl
  rows_from_lem i (x ∷ xs) =
      ap₂ {C = List (List ℕ)} (λ a l. a ∷ l)
      (take_at (row i x) (rows_from row f (i + length (f x)) xs) w (width i x))
      (ap (λ (l : List ℕ). rows w (length xs) l)
      (drop_at (row i x) (rows_from row f (i + length (f x)) xs) w (width i x))
      ∙ rows_from_lem (i + length (f x)) xs)

  pub table_from : 0 < w → (i : ℕ) (xs : List X) → table w (rows_from row f i xs) ≡ row_list row f i xs
  unfolding table
  table_from p i xs =
      ap (λ (k : ℕ). rows w k (rows_from row f i xs))
      (ap (λ (k : ℕ). k / w) (length_rows_from i xs) ∙ mul-div_cancel (length xs) p)
      ∙ rows_from_lem i xs

-- ---- parts put one after the other are read back
module _ {X A : Type 0} (row : ℕ → X → List ℕ) (f : X → List A) (from : List A → List ℕ → X) (P : X → Type 0)
    (back : (all : List A) (i : ℕ) (x : X) → P x → part i (length (f x)) all ≡ f x → from all (row i x) ≡ x) where
  parts_back_at : (pre : List A) (xs : List X) → Each P xs
      → map (from (pre ++ gather f xs)) (row_list row f (length pre) xs) ≡ xs
  parts_back_at pre [] h = refl
  parts_back_at pre (x ∷ xs) h = ap₂ {C = List X} (λ a l. a ∷ l)
      (back (pre ++ (f x ++ gather f xs)) (length pre) x h.0
      (ap (λ (l : List A). take (length (f x)) l) (drop_at pre (f x ++ gather f xs) (length pre) refl)
      ∙ take-append_seam (f x) (gather f xs)))
      (ap (λ (l : List A). map (from l) (row_list row f (length pre + length (f x)) xs))
      (sym (append_assoc pre (f x) (gather f xs)))
      ∙ ap (λ (k : ℕ). map (from ((pre ++ f x) ++ gather f xs)) (row_list row f k xs))
      (sym (length-append pre (f x)))
      ∙ parts_back_at (pre ++ f x) xs h.1)

  pub parts_back : (xs : List X) → Each P xs → map (from (gather f xs)) (row_list row f 0 xs) ≡ xs
  parts_back xs h = parts_back_at [] xs h

-- and they fit
pub parts_fit_lem : {X A : Type 0} (kf kc : ℕ) (row : ℕ → X → List ℕ) (f : X → List A)
    → ((i : ℕ) (x : X) → word (row i x) kf ≡ i) → ((i : ℕ) (x : X) → word (row i x) kc ≡ length (f x)) →
    (i : ℕ) (xs : List X) → parts_fit kf kc i (i + length (gather f xs)) (row_list row f i xs) ≡ true
parts_fit_lem kf kc row f p q i [] = eq-eqb i (i + 0) (omega arith)
parts_fit_lem kf kc row f p q i (x ∷ xs) =
    and_both (eqb (word (row i x) kf) i)
    (parts_fit kf kc (i + word (row i x) kc) (i + length (f x ++ gather f xs))
    (row_list row f (i + length (f x)) xs))
    (eq-eqb (word (row i x) kf) i (p i x))
    (ap₂ (λ (a b : ℕ). parts_fit kf kc a b (row_list row f (i + length (f x)) xs))
    (ap (λ (k : ℕ). i + k) (q i x)) (omega (arith, length-append (f x) (gather f xs)))
    ∙ parts_fit_lem kf kc row f p q (i + length (f x)) xs)

-- parts that fit: the first begins at i, and the rest fit after it
pub fit_first : (kf kc i n : ℕ) (r : List ℕ) (rs : List (List ℕ)) → parts_fit kf kc i n (r ∷ rs) ≡ true → word r kf ≡ i
fit_first kf kc i n r rs h =
    eqb-true (word r kf) i (and_left (eqb (word r kf) i) (parts_fit kf kc (i + word r kc) n rs) h)

pub fit_rest : (kf kc i n : ℕ) (r : List ℕ) (rs : List (List ℕ)) → parts_fit kf kc i n (r ∷ rs) ≡ true
    → parts_fit kf kc (i + word r kc) n rs ≡ true
fit_rest kf kc i n r rs h = and_right (eqb (word r kf) i) (parts_fit kf kc (i + word r kc) n rs) h

-- parts that fit are given back
pub fit_le : (kf kc i n : ℕ) (rs : List (List ℕ)) → parts_fit kf kc i n rs ≡ true → i ≤ n
fit_le kf kc i n [] h = omega (arith, eqb-true i n h)
fit_le kf kc i n (r ∷ rs) h = omega (arith, fit_le kf kc (i + word r kc) n rs (fit_rest kf kc i n r rs h))

module _ {X A : Type 0} (kf kc : ℕ) (row : ℕ → X → List ℕ) (f : X → List A) (from : List ℕ → X) (all : List A)
    (P : List ℕ → Type 0)
    (reads : (r : List ℕ) → f (from r) ≡ part (word r kf) (word r kc) all)
    (forth : (r : List ℕ) → P r → length (f (from r)) ≡ word r kc → row (word r kf) (from r) ≡ r) where
  part_count : (i : ℕ) (r : List ℕ) → word r kf ≡ i → i + word r kc ≤ length all → length (f (from r)) ≡ word r kc
  part_count i r e h =
      ap length (reads r)
      ∙ length-take-le (word r kc) (drop (word r kf) all) (omega (arith, length-drop (word r kf) all))

  pub rows_forth : (i : ℕ) (rs : List (List ℕ)) → Each P rs → parts_fit kf kc i (length all) rs ≡ true
      → rows_from row f i (map from rs) ≡ gather (λ r. r) rs
  rows_forth i [] h p = refl
  rows_forth i (r ∷ rs) h p =
      ap₂ (λ (a b : List ℕ). a ++ b)
      (ap (λ (k : ℕ). row k (from r)) (sym (fit_first kf kc i (length all) r rs p)) ∙ forth r h.0 count)
      (ap (λ (k : ℕ). rows_from row f (i + k) (map from rs)) count
      ∙ rows_forth (i + word r kc) rs h.1 (fit_rest kf kc i (length all) r rs p))
    where
      count : length (f (from r)) ≡ word r kc
      count =
          part_count i r (fit_first kf kc i (length all) r rs p)
          (fit_le kf kc (i + word r kc) (length all) rs (fit_rest kf kc i (length all) r rs p))

  pub parts_forth : (i : ℕ) (rs : List (List ℕ)) → parts_fit kf kc i (length all) rs ≡ true
      → gather f (map from rs) ≡ drop i all
  parts_forth i [] p = sym (drop-length all) ∙ ap (λ (k : ℕ). drop k all) (sym (eqb-true i (length all) p))
  parts_forth i (r ∷ rs) p =
      ap₂ (λ (a b : List A). a ++ b)
      (reads r ∙ ap (λ (k : ℕ). part k (word r kc) all) (fit_first kf kc i (length all) r rs p))
      (parts_forth (i + word r kc) rs (fit_rest kf kc i (length all) r rs p)
      ∙ sym (drop-drop (word r kc) i all))
      ∙ take-append-drop (word r kc) (drop i all)

-- a row is its words
abbrev pub words_from : ℕ → ℕ → List ℕ → List ℕ
words_from zero k r = []
words_from (suc n) k r = word r k ∷ words_from n (suc k) r

words_shift : (n k x : ℕ) (r : List ℕ) → words_from n (suc k) (x ∷ r) ≡ words_from n k r
words_shift zero k x r = refl
words_shift (suc n) k x r = ap {B = List ℕ} (λ l. word r k ∷ l) (words_shift n (suc k) x r)

pub spelled : (n : ℕ) (r : List ℕ) → length r ≡ n → words_from n 0 r ≡ r
spelled zero [] h = refl
spelled zero (x ∷ r) h = absurd (let z : suc (length r) ≡ 0 = h in omega arith)
spelled (suc n) [] h = absurd (let z : 0 ≡ suc n = h in omega arith)
spelled (suc n) (x ∷ r) h =
    ap {B = List ℕ} (λ l. x ∷ l)
    (words_shift n 0 x r ∙ spelled n r (let z : suc (length r) ≡ suc n = h in omega arith))
