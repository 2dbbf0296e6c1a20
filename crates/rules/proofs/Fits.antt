-- Parts of a table that follow one another, and the numbers in them.
use Prim.Native.Nat.{ℕ, zero, suc, ◌+◌, ◌-◌, ◌*◌, ◌/◌, ◌<◌, ◌≤◌}
use mathlib.Core.Path.{◌≡◌, refl, sym, ap, ap₂, ◌∙◌, subst}
use mathlib.Core.List.{List, [], ◌++◌, ◌∷◌}
use mathlib.Core.Bool.{Bool, true, false, ◌&&◌, ◌||◌}
use native.Mathlib.Numerals.{add-one}
use native.Mathlib.Omega.{arith}
use lib.ListN.{length, get_or, drop, drop_of_length-le}
use lib.Seq.{drop-cons}
use lib.Dec.{eqb, ltb}
use borrow.Author.Tests.{eq-eqb, ne_eqb, eqb-true, lt-ltb, le-ltb}
use Rattle.model.specs.Rows.{parts_fit, table}
use Rattle.laws.proofs.Lay.{fit_le, length_table}
use Rattle.laws.proofs.RowTests.{word_at}
use Rattle.words.specs.Rows.{total}
use Rattle.words.proofs.Laws.{total_le, total_more, total_none}
use Rattle.words.proofs.Scans.{and_off, and_off_left, and_on, left_on, right_on, and_step, row_fits}
use Rattle.rules.specs.Parts.{Fit, counts}
use Rattle.rules.proofs.Every.{table_end, table_more, lower}
use native.Mathlib.Nat.{le_of_suc-le-suc, not-suc-le-zero, div-add-mod'}
use Rattle.model.specs.Lists.{ascends, every, member}

pub in_row : (n w i k : ℕ) → i < n / w → k < w → i * w + k < n
in_row n w i k h l = let a = row_fits (n / w) w i h in let b = div-add-mod' n w in omega arith

pub fit_over : (kf kc i n : ℕ) (rs : List (List ℕ)) → n < i → parts_fit kf kc i n rs ≡ false
fit_over kf kc i n rs h = go (parts_fit kf kc i n rs) refl
  where
    go : (b : Bool) → parts_fit kf kc i n rs ≡ b → parts_fit kf kc i n rs ≡ false
    go false e = e
    go true e = let z = fit_le kf kc i n rs e in absurd (omega arith)

module _ (w kf kc n : ℕ) (ws : List ℕ) (lf : kf < w) (lc : kc < w) where
  pub fit_step : (at i : ℕ) → i < length ws / w
      → parts_fit kf kc at n (drop i (table w ws))
      ≡ eqb (get_or ws (i * w + kf) 0) at && parts_fit kf kc (at + get_or ws (i * w + kc) 0) n
      (drop (i + 1) (table w ws))
  fit_step at i h =
      let len : i < length (table w ws) = subst (λ (m : ℕ). i < m) (sym (length_table w ws)) h in
      ap (parts_fit kf kc at n) (drop-cons (table w ws) i [] len)
      ∙ ap₂ (λ (f c : ℕ). eqb f at && parts_fit kf kc (at + c) n (drop (suc i) (table w ws)))
      (word_at w ws i kf h lf) (word_at w ws i kc h lc)
      ∙ ap (λ (k : ℕ).
      eqb (get_or ws (i * w + kf) 0) at && parts_fit kf kc (at + get_or ws (i * w + kc) 0) n (drop k (table w ws)))
      (sym (add-one i))

  pub fit_end : (at i : ℕ) → length ws / w ≤ i → parts_fit kf kc at n (drop i (table w ws)) ≡ eqb at n
  fit_end at i h =
      ap (parts_fit kf kc at n)
      (drop_of_length-le (table w ws) (subst (λ (m : ℕ). m ≤ i) (sym (length_table w ws)) h))

-- what a loop over the rows keeps: the parts so far end at `at`, and the rest of the rows decides
pub record PartsLeft (w kf kc n : ℕ) (ws : List ℕ) (at size : ℕ) (rest : List ℕ) : Type 0 where
  pub inside : at ≤ n
  pub wide : size ≡ w
  pub left : parts_fit kf kc 0 n (table w ws) ≡ parts_fit kf kc at n (table w rest)

module _ {w kf kc n : ℕ} {ws : List ℕ} {at size : ℕ} {rest : List ℕ} (parts : PartsLeft w kf kc n ws at size rest)
    (some : 0 < w) where
  -- no row is left
  pub parts_end : length rest < size → eqb at n ≡ parts_fit kf kc 0 n (table w ws)
  parts_end short =
      sym (parts.left ∙ ap (parts_fit kf kc at n) (table_end w rest (rw (← parts.wide) short)))

  -- the next row's part
  module _ (row after : List ℕ) {first count : ℕ} (cut : (rest ≡ row ++ after) × (length row ≡ size))
      (first_is : first ≡ get_or row kf 0) (count_is : count ≡ get_or row kc 0) where
    next : parts_fit kf kc 0 n (table w ws) ≡ eqb first at && parts_fit kf kc (at + count) n (table w after)
    next = parts.left
        ∙ ap (parts_fit kf kc at n) (table_more w rest row after some cut.0 (cut.1 ∙ parts.wide))
        ∙ rw (first_is, count_is)

    pub parts_elsewhere : (first ≡ at → ⊥) → false ≡ parts_fit kf kc 0 n (table w ws)
    parts_elsewhere other = sym (next ∙ and_off_left _ _ (ne_eqb first at other))

    pub parts_past : n - at < count → false ≡ parts_fit kf kc 0 n (table w ws)
    parts_past over =
        let past : n < at + count = omega (arith, parts.inside) in
        sym (next ∙ and_off (eqb first at) _ (fit_over kf kc (at + count) n (table w after) past))

    pub parts_more : {new_size : ℕ} → new_size ≡ size → first ≡ at → count ≤ n - at
        → PartsLeft w kf kc n ws (at + count) new_size after
    parts_more same_size same room = record {
      inside = omega (arith, parts.inside);
      wide = same_size ∙ parts.wide;
      left = next ∙ and_on (eqb first at) _ (eq-eqb first at same);
    }

-- ---- parts that follow one another, by their rows
module _ (w kf kc n : ℕ) (ws : List ℕ) (lf : kf < w) (lc : kc < w) (e : parts_fit kf kc 0 n (table w ws) ≡ true) where
  left : (r : ℕ) → r ≤ length ws / w → parts_fit kf kc (total r (counts w kc ws)) n (drop r (table w ws)) ≡ true
  left zero h = ap (λ (k : ℕ). parts_fit kf kc k n (table w ws)) (sym (total_none (counts w kc ws))) ∙ e
  left (suc r) h =
      let so_far = total r (counts w kc ws) in
      let rest = parts_fit kf kc (so_far + counts w kc ws r) n (drop (r + 1) (table w ws)) in
      let fits : rest ≡ true = right_on (eqb (get_or ws (r * w + kf) 0) so_far) rest
      (sym (fit_step w kf kc n ws lf lc so_far r h) ∙ left r (omega arith)) in
      ap₂ (λ (i k : ℕ). parts_fit kf kc i n (drop k (table w ws)))
      (ap (λ (k : ℕ). total k (counts w kc ws)) (sym (add-one r)) ∙ total_more r (counts w kc ws)) (sym (add-one r))
      ∙ fits

  pub fit_of : Fit w kf kc ws n
  fit_of = record {
    begins = λ r h. eqb-true _ _
        (left_on (eqb (get_or ws (r * w + kf) 0) (total r (counts w kc ws)))
        (parts_fit kf kc (total r (counts w kc ws) + counts w kc ws r) n (drop (r + 1) (table w ws)))
        (sym (fit_step w kf kc n ws lf lc (total r (counts w kc ws)) r h) ∙ left r (omega arith)));
    whole = eqb-true _ _ (sym
        (fit_end w kf kc n ws lf lc (total (length ws / w) (counts w kc ws)) (length ws / w) (omega arith))
        ∙ left (length ws / w) (omega arith));
  }

-- a part ends where the next begins, and lies in its table
pub fit_next : (w kc : ℕ) (ws : List ℕ) (r : ℕ)
    → total (r + 1) (counts w kc ws) ≡ total r (counts w kc ws) + counts w kc ws r
fit_next w kc ws r = total_more r (counts w kc ws)

pub fit_in : (w kf kc : ℕ) (ws : List ℕ) (n : ℕ) → Fit w kf kc ws n → (r : ℕ) → r < length ws / w
    → get_or ws (r * w + kf) 0 + get_or ws (r * w + kc) 0 ≤ n
fit_in w kf kc ws n f r h =
    let a = f.begins r h in
    let b = f.whole in
    let c = fit_next w kc ws r in
    let d = total_le (r + 1) (length ws / w) (counts w kc ws) (omega arith) in
    omega arith

pub part_in : (w kf kc n : ℕ) (ws : List ℕ) → kf < w → kc < w → parts_fit kf kc 0 n (table w ws) ≡ true → (r : ℕ)
    → r < length ws / w → get_or ws (r * w + kf) 0 + get_or ws (r * w + kc) 0 ≤ n
part_in w kf kc n ws lf lc e = fit_in w kf kc ws n (fit_of w kf kc n ws lf lc e)

-- ---- numbers that ascend
pub ascend_on : (ns : List ℕ) → ((k : ℕ) → k + 1 < length ns → get_or ns k 0 < get_or ns (k + 1) 0) → ascends ns ≡ true
ascend_on [] h = refl
ascend_on (x ∷ []) h = refl
ascend_on (x ∷ y ∷ ys) h =
    let ih : ascends (y ∷ ys) ≡ true = ascend_on (y ∷ ys) (λ k l. later k l) in
    let lt : x < y = h 0 (omega arith) in
    and_step (and_step (lt-ltb x y lt) (lower x y ys lt (left_on (every (ltb y) ys) (ascends ys) ih))) ih
  where
    later : (k : ℕ) → k + 1 < length (y ∷ ys) → get_or (y ∷ ys) k 0 < get_or (y ∷ ys) (k + 1) 0
    later k l =
        subst (λ (m : ℕ). get_or (y ∷ ys) k 0 < get_or (x ∷ y ∷ ys) m 0) (move k)
        (h (suc k) (subst (λ (m : ℕ). m < length (x ∷ y ∷ ys)) (sym (move k)) (Prim.Native.Nat.suc-le-suc l)))
      where
        move : (k : ℕ) → suc k + 1 ≡ suc (k + 1)
        move k = omega arith

pub ascend_off : (ns : List ℕ) (k : ℕ) → k + 1 < length ns → get_or ns (k + 1) 0 ≤ get_or ns k 0 → ascends ns ≡ false
ascend_off [] k h e = absurd (not-suc-le-zero h)
ascend_off (x ∷ []) k h e = absurd (omega arith)
ascend_off (x ∷ y ∷ ys) zero h e = ap (λ b. b && every (ltb x) ys && ascends (y ∷ ys)) (le-ltb x y e)
ascend_off (x ∷ y ∷ ys) (suc k) h e =
    and_off (every (ltb x) (y ∷ ys)) (ascends (y ∷ ys))
    (ascend_off (y ∷ ys) k (le_of_suc-le-suc (subst (λ (m : ℕ). m < length (x ∷ y ∷ ys)) (move k) h))
    (subst (λ (m : ℕ). get_or (x ∷ y ∷ ys) m 0 ≤ get_or (y ∷ ys) k 0) (move k) e))
  where
    move : (k : ℕ) → suc k + 1 ≡ suc (k + 1)
    move k = omega arith

-- ---- a number among others
pub member_step : (n : ℕ) (xs : List ℕ) (k : ℕ) → k < length xs
    → member n (drop k xs) ≡ eqb n (get_or xs k 0) || member n (drop (k + 1) xs)
member_step n xs k h =
    ap (member n) (drop-cons xs k 0 h)
    ∙ ap (λ (m : ℕ). eqb n (get_or xs k 0) || member n (drop m xs)) (sym (add-one k))

pub member_end : (n : ℕ) (xs : List ℕ) (k : ℕ) → length xs ≤ k → member n (drop k xs) ≡ false
member_end n xs k h = ap (member n) (drop_of_length-le xs h)
