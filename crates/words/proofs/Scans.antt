-- Tests over the rows of a table, by row numbers.
use Prim.Native.Nat.{ℕ, zero, suc, ◌+◌, ◌*◌, ◌/◌, ◌<◌, ◌≤◌}
use mathlib.Core.Path.{◌≡◌, refl, sym, ap, ap₂, ◌∙◌, subst}
use mathlib.Core.Logic.{⊎_elim}
use mathlib.Core.List.{List, [], ◌∷◌, ◌++◌, map}
use mathlib.Core.Bool.{Bool, true, false, not, ◌&&◌, ◌||◌}
use native.Mathlib.Nat.{le_of_suc-le-suc, not-suc-le-zero, eq-or-lt_of_le, le_refl, le_step, suc-mul}
use native.Mathlib.Nat.{mul-le-mul_right, zero-mul}
use native.Mathlib.Numerals.{add-one}
use native.Mathlib.Omega.{arith}
use lib.ListN.{length, get_or, take, drop}
use lib.Seq.{drop-drop, get_or-take, ext_get_or}
use lib.Dec.{ltb}
use Rattle.model.specs.Lists.{distinct, every, some?}
use Rattle.model.specs.Reading.{row_at}
use Rattle.model.specs.Rows.{table}
use Rattle.std.specs.Simd.{first_chunks}
use Rattle.laws.proofs.Lay.{length_table}
use Rattle.laws.proofs.RowTests.{table_at}
use Rattle.words.specs.Rows.{all, any, from, tab}
use Rattle.words.proofs.Laws.{map_tab, tab_at, tab_length, tab_same}

-- ---- Bool
pub and_step : {a b : Bool} → a ≡ true → b ≡ true → (a && b) ≡ true
and_step {a} {b} e f = rw (e, f)

pub and_off_left : (a b : Bool) → a ≡ false → (a && b) ≡ false
and_off_left a b e = rw e

pub and_off : (a b : Bool) → b ≡ false → (a && b) ≡ false
and_off true b e = e
and_off false b e = refl

pub and_on : (a b : Bool) → a ≡ true → (a && b) ≡ b
and_on a b e = rw e

pub left_on : (a b : Bool) → (a && b) ≡ true → a ≡ true
left_on true b e = refl
left_on false b e = e

pub right_on : (a b : Bool) → (a && b) ≡ true → b ≡ true
right_on true b e = e
right_on false b e = absurd (mathlib.Core.Bool.false≢true e)

-- ---- all
pub all_none : (p : ℕ → Bool) → all 0 p ≡ true
unfolding all
all_none p = refl

pub all_more : (n : ℕ) (p : ℕ → Bool) → all (n + 1) p ≡ (all n p && p n)
unfolding all
all_more n p = rw add-one

pub all_step : (n : ℕ) (p : ℕ → Bool) → all n p ≡ true → p n ≡ true → all (n + 1) p ≡ true
all_step n p e f = all_more n p ∙ and_step e f

pub all_miss : (n i : ℕ) (p : ℕ → Bool) → i < n → p i ≡ false → all n p ≡ false
unfolding all
all_miss zero i p h e = absurd (not-suc-le-zero h)
all_miss (suc n) i p h e =
    let ih : i < n → all n p ≡ false = λ lt. all_miss n i p lt e in
    ⊎_elim
    (λ q. and_off (all n p) (p n) (subst (λ (k : ℕ). p k ≡ false) q e))
    (λ lt. and_off_left (all n p) (p n) (ih lt))
    (eq-or-lt_of_le (le_of_suc-le-suc h))

pub all_at : (n i : ℕ) (p : ℕ → Bool) → all n p ≡ true → i < n → p i ≡ true
all_at n i p e h = go (p i) refl
  where
    go : (b : Bool) → p i ≡ b → p i ≡ true
    go true q = q
    go false q = absurd (mathlib.Core.Bool.false≢true (sym (all_miss n i p h q) ∙ e))

pub all_same : (n : ℕ) (p q : ℕ → Bool) → ((i : ℕ) → i < n → p i ≡ q i) → all n p ≡ all n q
unfolding all
all_same zero p q h = refl
all_same (suc n) p q h = ap₂ ◌&&◌ (all_same n p q (λ i lt. h i (le_step lt))) (h n (le_refl (suc n)))

-- ---- lists that are tabs
module _ {A : Type 0} where
  every_snoc : (p : A → Bool) (xs : List A) (y : A) → every p (xs ++ (y ∷ [])) ≡ (every p xs && p y)
  every_snoc p [] y = last (p y)
    where
      last : (b : Bool) → (b && true) ≡ b
      last true = refl
      last false = refl
  every_snoc p (x ∷ xs) y = ap (λ b. p x && b) (every_snoc p xs y) ∙ assoc (p x) (every p xs) (p y)
    where
      assoc : (a b c : Bool) → (a && (b && c)) ≡ ((a && b) && c)
      assoc true b c = refl
      assoc false b c = refl

  some_snoc : (p : A → Bool) (xs : List A) (y : A) → some? p (xs ++ (y ∷ [])) ≡ (some? p xs || p y)
  some_snoc p [] y = last (p y)
    where
      last : (b : Bool) → (b || false) ≡ b
      last true = refl
      last false = refl
  some_snoc p (x ∷ xs) y = ap (λ b. p x || b) (some_snoc p xs y) ∙ assoc (p x) (some? p xs) (p y)
    where
      assoc : (a b c : Bool) → (a || (b || c)) ≡ ((a || b) || c)
      assoc true b c = refl
      assoc false b c = refl

  distinct_snoc : (q : A → A → Bool) (xs : List A) (y : A)
      → distinct q (xs ++ (y ∷ [])) ≡ (distinct q xs && not (some? (λ x. q x y) xs))
  distinct_snoc q [] y = refl
  distinct_snoc q (x ∷ xs) y =
      ap₂ (λ a b. not a && b) (some_snoc (q x) xs y) (distinct_snoc q xs y)
      ∙ go (some? (q x) xs) (q x y) (distinct q xs) (some? (λ z. q z y) xs)
    where
      go : (a b d e : Bool) → (not (a || b) && (d && not e)) ≡ ((not a && d) && not (b || e))
      go true b d e = refl
      go false true true e = refl
      go false true false e = refl
      go false false d e = refl

  pub every_tab : (p : A → Bool) (n : ℕ) (f : ℕ → A) → every p (tab n f) ≡ all n (λ i. p (f i))
  unfolding all tab
  every_tab p zero f = refl
  every_tab p (suc n) f = every_snoc p (tab n f) (f n) ∙ ap (λ b. b && p (f n)) (every_tab p n f)

  pub some_tab : (p : A → Bool) (n : ℕ) (f : ℕ → A) → some? p (tab n f) ≡ any n (λ i. p (f i))
  unfolding any tab
  some_tab p zero f = refl
  some_tab p (suc n) f = some_snoc p (tab n f) (f n) ∙ ap (λ b. b || p (f n)) (some_tab p n f)

  pub distinct_tab : (q : A → A → Bool) (n : ℕ) (f : ℕ → A)
      → distinct q (tab n f) ≡ not (any n (λ i. any i (λ j. q (f j) (f i))))
  unfolding any tab
  distinct_tab q zero f = refl
  distinct_tab q (suc n) f =
      distinct_snoc q (tab n f) (f n)
      ∙ ap₂ (λ a b. a && not b) (distinct_tab q n f) (some_tab (λ x. q x (f n)) n f)
      ∙ morgan (any n (λ i. any i (λ j. q (f j) (f i)))) (any n (λ j. q (f j) (f n)))
    where
      morgan : (a b : Bool) → (not a && not b) ≡ not (a || b)
      morgan true b = refl
      morgan false b = refl

  -- a table is the tab of its rows
  pub table_tab : (w : ℕ) (ws : List A) → table w ws ≡ tab (length ws / w) (λ i. take w (drop (i * w) ws))
  table_tab w ws =
      ext_get_or [] (table w ws) (tab (length ws / w) (λ i. take w (drop (i * w) ws)))
      (length_table w ws ∙ sym (tab_length (length ws / w) (λ i. take w (drop (i * w) ws))))
      (λ k h. let lt : k < length ws / w = subst (λ (m : ℕ). k < m) (length_table w ws) h in
      table_at w ws k lt ∙ sym (tab_at (length ws / w) (λ i. take w (drop (i * w) ws)) k [] lt))

-- ---- a row and what follows it have the same words
pub take_word : (w k : ℕ) (l : List ℕ) → ltb k w ≡ true → get_or (take w l) k 0 ≡ get_or l k 0
take_word w k l e = get_or-take w l k 0 (borrow.Author.Tests.ltb-true k w e)

-- a test of a row that looks at its w words only
abbrev pub Local : ℕ → {B : Type 0} → (List ℕ → B) → Type 0
Local w {B} p = (l : List ℕ) → p (take w l) ≡ p l

module _ (w : ℕ) (ws : List ℕ) where
  pub every_rows : (p : List ℕ → Bool) → Local w p → every p (table w ws) ≡ all (length ws / w) (λ i. p (from w ws i))
  every_rows p h =
      ap (every p) (table_tab w ws)
      ∙ every_tab p (length ws / w) (λ i. take w (drop (i * w) ws))
      ∙ all_same (length ws / w) (λ i. p (take w (drop (i * w) ws))) (λ i. p (drop (i * w) ws))
      (λ i lt. h (drop (i * w) ws))

  -- the rows as records
  pub map_rows : {R : Type 0} (f : List ℕ → R) → Local w f
      → map f (table w ws) ≡ tab (length ws / w) (λ i. f (from w ws i))
  map_rows f h =
      ap (map f) (table_tab w ws)
      ∙ map_tab f (length ws / w) (λ i. take w (drop (i * w) ws))
      ∙ tab_same (length ws / w) (λ i. f (take w (drop (i * w) ws))) (λ i. f (drop (i * w) ws))
      (λ i lt. h (drop (i * w) ws))

-- the words of a row that code reads
pub row_fits : (n w i : ℕ) → i < n → i * w + w ≤ n * w
row_fits n w i h = subst (λ (m : ℕ). m ≤ n * w) (suc-mul i w) (mul-le-mul_right w h)

-- row k, as the code has it of a table's chunks
pub chunk_at : (w n : ℕ) (ws : List ℕ) (k : ℕ) (d : List ℕ) → k < n → get_or (first_chunks w n ws) k d ≡ row_at w ws k
chunk_at w zero ws k d h = absurd (not-suc-le-zero h)
chunk_at w (suc n) ws zero d h = ap (λ (m : ℕ). take w (drop m ws)) (sym (zero-mul w))
chunk_at w (suc n) ws (suc k) d h =
    chunk_at w n (drop w ws) k d (le_of_suc-le-suc h)
    ∙ ap (take w)
    (drop-drop (k * w) w ws
    ∙ (let one-row-more = suc-mul k w in
    let words : w + k * w ≡ suc k * w = omega arith in
    ap (λ (m : ℕ). drop m ws) words))
