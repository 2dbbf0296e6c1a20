-- What `all` answers over the rows of a table, over neighbours and over numbers: as the tests of the model.
use Prim.Native.Nat.{ℕ, zero, suc, ◌+◌, ◌*◌, ◌/◌, ◌<◌, ◌≤◌}
use mathlib.Core.Path.{◌≡◌, refl, sym, ap, ap₂, ◌∙◌}
use mathlib.Core.List.{List, [], ◌∷◌, ◌++◌, map}
use mathlib.Core.Bool.{Bool, true, false, ◌&&◌}
use native.Mathlib.Numerals.{add-one}
use native.Mathlib.Omega.{arith}
use native.Mathlib.Nat.{add-mul-div_left, div-eq_of_lt, div-mul-le_self, lt-mul-div-succ, mul_comm, mul-suc, suc-mul}
use native.Mathlib.Nat.{zero-add}
use lib.ListN.{length, get_or, take, drop, length-append, length-drop}
use lib.Seq.{take-append_seam, drop-append_seam, ext_get_or}
use lib.Dec.{ltb}
use borrow.Author.Tests.{lt-ltb, ltb-true}
use denote.Ref.{Bor}
use denote.Param.Members.{Mut}
use Rattle.std.specs.declared.slice.ChunksExact.{ChunksExact}
use Rattle.std.specs.declared.slice.Windows.{Windows}
use Rattle.std.specs.declared.ops.Range.{Range}
use Rattle.std.specs.declared.slice.Iter.{Iter}
use Rattle.std.specs.Iterator.{AlwaysYields, ChecksAll}
use Rattle.std.specs.List.{list_all, range_with_len}
use Rattle.std.specs.Fn.{Called}
use Rattle.std.specs.Slice.Iter.{chunks_exact_rest, chunks_exact_size, chunks_exact_steps}
use Rattle.std.specs.Slice.Iter.{windows_rest, windows_size, windows_steps}
use Rattle.std.specs.Slice.Iter.{iter_rest}
use Rattle.std.proofs.iter.Yields.{fronts, nat_range_steps}
use Rattle.std.proofs.lemmas.Iterator.{YieldsList, YieldsList-from_range, YieldsList-from_slice}
use Rattle.std.proofs.lemmas.Iterator.Search.{all_from_yields_List}
use Rattle.std.proofs.lemmas.List.FromFn.{length-range_with_len, get_or-range_with_len}
use Rattle.model.specs.Lists.{ascends, every}
use Rattle.model.specs.Rows.{rows, table}
use Rattle.words.specs.Rows.{all, tab}
use Rattle.words.proofs.Laws.{tab_at, tab_length}
use Rattle.words.proofs.Scans.{and_step, every_tab, left_on, right_on}

-- std's `list_all` is the model's `every`
every_all : {A : Type 0} (p : A → Bool) (xs : List A) → list_all p xs ≡ every p xs
every_all p [] = refl
every_all p (x ∷ xs) = ap (λ b. p x && b) (every_all p xs)

pub every_map : {A B : Type 0} (p : B → Bool) (f : A → B) (xs : List A) → every p (map f xs) ≡ every (λ x. p (f x)) xs
every_map p f [] = refl
every_map p f (x ∷ xs) = ap (λ b. p (f x) && b) (every_map p f xs)

-- ---- `chunks_exact` gives the rows
module _ {A : Type 0} where
  front : (xs a b : List A) (w : ℕ) → xs ≡ a ++ b → length a ≡ w → a ≡ take w xs
  front xs a b w e l = rw (e, ← l) (sym (take-append_seam a b))

  back : (xs a b : List A) (w : ℕ) → xs ≡ a ++ b → length a ≡ w → b ≡ drop w xs
  back xs a b w e l = rw (e, ← l) (sym (drop-append_seam a b))

  -- the rows of a table, one by one
  pub table_more : (w : ℕ) (xs a b : List A) → 0 < w → xs ≡ a ++ b → length a ≡ w → table w xs ≡ a ∷ table w b
  unfolding table
  table_more w xs a b some e l =
      let long : length xs ≡ length b + w * 1 = ap length e ∙ length-append a b ∙ omega arith in
      let one : length xs / w ≡ suc (length b / w) =
      ap (λ n. n / w) long ∙ add-mul-div_left (length b) 1 some ∙ add-one (length b / w) in
      ap (λ n. rows w n xs) one
      ∙ ap₂ (λ r rest. r ∷ rows w (length b / w) rest) (sym (front xs a b w e l)) (sym (back xs a b w e l))

  pub table_end : (w : ℕ) (xs : List A) → length xs < w → table w xs ≡ []
  unfolding table
  table_end w xs short = ap (λ n. rows w n xs) (div-eq_of_lt short)

  cut : (w n : ℕ) (xs : List A) (s : ChunksExact A) → chunks_exact_rest s ≡ xs → chunks_exact_size s ≡ w
      → n * w ≤ length xs → length xs < n * w + w → AlwaysYields chunks_exact_steps (λ y. y.now) s (rows w n xs)
  cut w zero xs s e f low high = λ x j p.
      let l = ap length p.1.0 ∙ length-append x.now (chunks_exact_rest j) in
      let m = ap length e in
      let b : length x.now ≡ chunks_exact_size s = p.1.1 in
      absurd (omega arith)
  cut w (suc n) xs s e f low high = (
    λ j p.
        let m = ap length e in
        let k = suc-mul n w in
        let b : length (chunks_exact_rest s) < chunks_exact_size s = p.1.0 in
        absurd (omega arith),
    λ x j p.
        let k = suc-mul n w in
        let is : xs ≡ x.now ++ chunks_exact_rest j = sym e ∙ p.1.0 in
        let l = length-drop w xs in
        let b : length x.now ≡ w = p.1.1 ∙ f in (
          front xs x.now (chunks_exact_rest j) w is b,
          cut w n (drop w xs) j (back xs x.now (chunks_exact_rest j) w is b) (p.0 ∙ f) (omega arith) (omega arith),
        ),
  )

  YieldsList-from_chunks_exact : {s : ChunksExact A} (w : ℕ) (xs : List A) → 0 < w → chunks_exact_rest s ≡ xs
      → chunks_exact_size s ≡ w → YieldsList chunks_exact_steps (λ y. y.now) s (table w xs)
  unfolding table
  YieldsList-from_chunks_exact {s} w xs some e f =
      let low = div-mul-le_self (length xs) w in
      let high = lt-mul-div-succ (length xs) some in
      let turned = mul_comm w (length xs / w) in
      let more = mul-suc w (length xs / w) in
      record { runs = cut w (length xs / w) xs s e f (omega arith) (omega arith) }

  -- `all` of the rows of a table, by a closure that answers p of each
  pub every_row : {F : Type 0} {g : Mut F (Bor (List A) × Unit {0}) Bool} {s u : ChunksExact A} {f : F} {r : Bool}
      (w : ℕ) (xs : List A) (p : List A → Bool) → ChecksAll chunks_exact_steps g s f r u
      → chunks_exact_rest s ≡ xs → chunks_exact_size s ≡ w → 0 < w
      → ((x : Bor (List A)) (b : Bool) (q : F) → Called g f (x, tt) b q → (q ≡ f) × (b ≡ p x.now))
      → r ≡ every p (table w xs)
  every_row {u = u} {f} {r} w xs p ran rest size some answers =
      all_from_yields_List p u f r ran (YieldsList-from_chunks_exact w xs some rest size) answers
      ∙ every_all p (table w xs)

  -- `all` of the elements of a slice
  pub every_item : {F : Type 0} {g : Mut F (Bor A × Unit {0}) Bool} {s u : Iter A} {f : F} {r : Bool}
      (xs : List A) (p : A → Bool) → ChecksAll fronts g s f r u → iter_rest s ≡ xs
      → ((x : Bor A) (b : Bool) (q : F) → Called g f (x, tt) b q → (q ≡ f) × (b ≡ p x.now)) → r ≡ every p xs
  every_item {u = u} {f} {r} xs p ran rest answers =
      all_from_yields_List p u f r ran (YieldsList-from_slice xs rest) answers ∙ every_all p xs

-- ---- `all` of the numbers below n
numbers : (n : ℕ) → range_with_len 0 n ≡ tab n (λ i. i)
numbers n =
    ext_get_or 0 (range_with_len 0 n) (tab n (λ i. i)) (length-range_with_len 0 n ∙ sym (tab_length n (λ i. i)))
    (λ k h.
    let below : k < n = rw length-range_with_len at h in
    get_or-range_with_len 0 n k 0 below ∙ zero-add k ∙ sym (tab_at n (λ i. i) k 0 below))

-- `all` of the numbers below n, by a closure that answers p of each
pub all_numbers : {F : Type 0} {g : Mut F (ℕ × Unit {0}) Bool} {s u : Range ℕ} {f : F} {r : Bool} (n : ℕ)
    (p : ℕ → Bool) → ChecksAll nat_range_steps g s f r u → s ≡ record { start = 0; end = n }
    → ((x : ℕ) (b : Bool) (q : F) → Called g f (x, tt) b q → (q ≡ f) × (b ≡ p x)) → r ≡ all n p
all_numbers {u = u} {f} {r} n p ran from answers =
    all_from_yields_List p u f r ran (YieldsList-from_range 0 n n from (omega arith)) answers
    ∙ every_all p (range_with_len 0 n) ∙ ap (every p) (numbers n) ∙ every_tab p n (λ i. i)

-- ---- `windows(2)` gives the neighbours
-- the neighbours of x before xs
abbrev neighbours : ℕ → List ℕ → List (List ℕ)
neighbours x [] = []
neighbours x (y ∷ ys) = (x ∷ y ∷ []) ∷ neighbours y ys

slide : (x : ℕ) (xs : List ℕ) (s : Windows ℕ) → windows_rest s ≡ x ∷ xs → windows_size s ≡ 2
    → AlwaysYields windows_steps (λ y. y.now) s (neighbours x xs)
slide x [] s e f = λ w j p.
    let l = ap length e in
    let b : windows_size s ≤ length (windows_rest s) = p.1.0 in
    absurd (omega arith)
slide x (y ∷ ys) s e f = (
  λ j p.
      let l = ap length e in
      let b : length (windows_rest s) < windows_size s = p.1.0 in
      absurd (omega arith),
  λ w j p.
      let is : w.now ≡ take (windows_size s) (windows_rest s) = p.1.1 in
      let rest : windows_rest j ≡ drop 1 (windows_rest s) = p.1.2 in
      (rw (f, e) at is, slide y ys j (rw e at rest) (p.0 ∙ f)),
)

pub lower : (x y : ℕ) (ys : List ℕ) → x < y → every (ltb y) ys ≡ true → every (ltb x) ys ≡ true
lower x y [] h e = refl
lower x y (z ∷ zs) h e =
    let a = ltb-true y z (left_on (ltb y z) (every (ltb y) zs) e) in
    and_step (lt-ltb x z (omega arith)) (lower x y zs h (right_on (ltb y z) (every (ltb y) zs) e))

-- whether the first of two is below the second
abbrev rises : List ℕ → Bool
rises pair = ltb (get_or pair 0 0) (get_or pair 1 0)

joined : (a b d e : Bool) → (a ≡ true → b ≡ true → d ≡ true) → (a && (b && e)) ≡ ((a && d) && (b && e))
joined false b d e h = refl
joined true false true e h = refl
joined true false false e h = refl
joined true true d e h = rw (h refl refl)

ascends_next : (x : ℕ) (xs : List ℕ) → every rises (neighbours x xs) ≡ ascends (x ∷ xs)
ascends_next x [] = refl
ascends_next x (y ∷ ys) =
    ap (λ b. ltb x y && b) (ascends_next y ys)
    ∙ joined (ltb x y) (every (ltb y) ys) (every (ltb x) ys) (ascends ys) (λ e f. lower x y ys (ltb-true x y e) f)

pairs : List ℕ → List (List ℕ)
pairs [] = []
pairs (x ∷ xs) = neighbours x xs

YieldsList-from_windows : {s : Windows ℕ} (xs : List ℕ) → windows_rest s ≡ xs → windows_size s ≡ 2
    → YieldsList windows_steps (λ y. y.now) s (pairs xs)
unfolding pairs
YieldsList-from_windows {s} [] e f = record {
  runs = λ w j p.
      let l = ap length e in
      let b : windows_size s ≤ length (windows_rest s) = p.1.0 in
      absurd (omega arith);
}
YieldsList-from_windows {s} (x ∷ xs) e f = record { runs = slide x xs s e f }

ascends_pairs : (xs : List ℕ) → every rises (pairs xs) ≡ ascends xs
unfolding pairs
ascends_pairs [] = refl
ascends_pairs (x ∷ xs) = ascends_next x xs

-- `all` of the neighbours of a list, by a closure that answers whether the first is below the second
pub all_rise : {F : Type 0} {g : Mut F (Bor (List ℕ) × Unit {0}) Bool} {s u : Windows ℕ} {f : F} {r : Bool}
    (xs : List ℕ) → ChecksAll windows_steps g s f r u → windows_rest s ≡ xs → windows_size s ≡ 2
    → ((x : Bor (List ℕ)) (b : Bool) (q : F) → Called g f (x, tt) b q
    → (q ≡ f) × (b ≡ ltb (get_or x.now 0 0) (get_or x.now 1 0)))
    → r ≡ ascends xs
all_rise {u = u} {f} {r} xs ran rest size answers =
    all_from_yields_List rises u f r ran (YieldsList-from_windows xs rest size) answers
    ∙ every_all rises (pairs xs) ∙ ascends_pairs xs
