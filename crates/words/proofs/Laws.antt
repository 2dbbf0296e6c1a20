-- The laws of the definitions in specs/Rows.antt: scans, totals and lists by their numbers, and what a writer
-- has put.
use Prim.Native.Nat.{ℕ, zero, suc, ◌+◌, ◌-◌, ◌<◌, ◌≤◌}
use mathlib.Core.Path.{◌≡◌, refl, sym, ap, ap₂, ◌∙◌, subst}
use mathlib.Core.Logic.{⊎_elim}
use mathlib.Core.List.{List, [], ◌∷◌, ◌++◌, append_assoc, map, zip_with}
use mathlib.Core.Bool.{Bool, true, false, ◌||◌}
use borrow.Rule.Slice.PartMut.{put_mid}
use native.Mathlib.Nat.{add_assoc, le_of_suc-le-suc, not-suc-le-zero, eq-or-lt_of_le, le_refl, le_trans}
use native.Mathlib.Nat.{le_step, zero-add}
use native.Mathlib.Numerals.{add-one}
use native.Mathlib.Omega.{arith}
use lib.ListN.{length, get_or, set, take, drop, length-append, length-set, length-take, length-drop, get_or-append}
use lib.Seq.{length-take-le, take_at, drop_at, drop-drop, drop-append-add, get_or_at, ext_get_or}
use lib.Seq.{paste, paste-zero, paste-suc, take-length}
use Rattle.model.specs.Rows.{written}
use Rattle.words.specs.Rows.{any, spliced, tab, total}

-- ---- Bool
pub or_left : (a b : Bool) → a ≡ true → (a || b) ≡ true
or_left a b e = rw e

pub or_right : (a b : Bool) → b ≡ true → (a || b) ≡ true
or_right true b e = refl
or_right false b e = e

pub or_none : (a b : Bool) → a ≡ false → b ≡ false → (a || b) ≡ false
or_none a b e f = rw (e, f)

pub or_false_left : (a b : Bool) → (a || b) ≡ false → a ≡ false
or_false_left true b e = e
or_false_left false b e = refl

pub or_false_right : (a b : Bool) → (a || b) ≡ false → b ≡ false
or_false_right true b e = let z : ◌≡◌ {A = Bool} true false = e in cc
or_false_right false b e = e

-- ---- any
pub any_more : (n : ℕ) (p : ℕ → Bool) → any (n + 1) p ≡ (any n p || p n)
unfolding any
any_more n p = rw add-one

pub any_none : (p : ℕ → Bool) → any 0 p ≡ false
unfolding any
any_none p = refl

-- one more that p does not hold of
pub any_step : (n : ℕ) (p : ℕ → Bool) → any n p ≡ false → p n ≡ false → any (n + 1) p ≡ false
any_step n p e f = any_more n p ∙ or_none (any n p) (p n) e f

pub any_hit : (n i : ℕ) (p : ℕ → Bool) → i < n → p i ≡ true → any n p ≡ true
unfolding any
any_hit zero i p h e = absurd (not-suc-le-zero h)
any_hit (suc n) i p h e =
    ⊎_elim (λ q. or_right (any n p) (p n) (ap p (sym q) ∙ e))
    (λ lt. or_left (any n p) (p n) (any_hit n i p lt e)) (eq-or-lt_of_le (le_of_suc-le-suc h))

pub any_at : (n i : ℕ) (p : ℕ → Bool) → any n p ≡ false → i < n → p i ≡ false
unfolding any
any_at zero i p e h = absurd (not-suc-le-zero h)
any_at (suc n) i p e h =
    ⊎_elim (λ q. ap p q ∙ or_false_right (any n p) (p n) e)
    (λ lt. any_at n i p (or_false_left (any n p) (p n) e) lt) (eq-or-lt_of_le (le_of_suc-le-suc h))

pub any_all : (n : ℕ) (p : ℕ → Bool) → ((i : ℕ) → i < n → p i ≡ false) → any n p ≡ false
unfolding any
any_all zero p h = refl
any_all (suc n) p h = or_none (any n p) (p n) (any_all n p (λ i lt. h i (le_step lt))) (h n (le_refl (suc n)))

pub any_same : (n : ℕ) (p q : ℕ → Bool) → ((i : ℕ) → i < n → p i ≡ q i) → any n p ≡ any n q
unfolding any
any_same zero p q h = refl
any_same (suc n) p q h = ap₂ ◌||◌ (any_same n p q (λ i lt. h i (le_step lt))) (h n (le_refl (suc n)))

pub any_false_le : (n m : ℕ) (p : ℕ → Bool) → n ≤ m → any m p ≡ false → any n p ≡ false
any_false_le n m p h e = any_all n p (λ i lt. any_at m i p e (le_trans lt h))

-- ---- total
pub total_none : (f : ℕ → ℕ) → 0 ≡ total 0 f
unfolding total
total_none f = refl

pub total_more : (n : ℕ) (f : ℕ → ℕ) → total (n + 1) f ≡ total n f + f n
unfolding total
total_more n f = rw add-one

pub total_same : (n : ℕ) (f g : ℕ → ℕ) → ((i : ℕ) → i < n → f i ≡ g i) → total n f ≡ total n g
unfolding total
total_same zero f g h = refl
total_same (suc n) f g h =
    let a = total_same n f g (λ i lt. h i (le_step lt)) in let b = h n (le_refl (suc n)) in omega arith

pub total_le : (n m : ℕ) (f : ℕ → ℕ) → n ≤ m → total n f ≤ total m f
unfolding total
total_le n zero f h = let e : n ≡ 0 = omega arith in rw e (le_refl 0)
total_le n (suc m) f h =
    ⊎_elim (λ q. subst (λ (k : ℕ). total k f ≤ total m f + f m) (sym q) (le_refl (total m f + f m)))
    (λ lt. let ih = total_le n m f (le_of_suc-le-suc lt) in omega arith) (eq-or-lt_of_le h)

-- ---- tab
module _ {ℓ} {A : Type ℓ} where
  pub tab_more : (n : ℕ) (f : ℕ → A) → tab (n + 1) f ≡ tab n f ++ (f n ∷ [])
  unfolding tab
  tab_more n f = rw add-one

  pub tab_length : (n : ℕ) (f : ℕ → A) → length (tab n f) ≡ n
  unfolding tab
  tab_length zero f = refl
  tab_length (suc n) f = simp (length-append, tab_length n f, add-one)

  pub tab_at : (n : ℕ) (f : ℕ → A) (i : ℕ) (d : A) → i < n → get_or (tab n f) i d ≡ f i
  unfolding tab
  tab_at zero f i d h = absurd (not-suc-le-zero h)
  tab_at (suc n) f i d h =
      ⊎_elim
      (λ q. rw q (get_or_at (tab n f) (f n) [] d n (tab_length n f)))
      (λ lt.
      get_or-append (tab n f) (f n ∷ []) d i (subst (λ (k : ℕ). i < k) (sym (tab_length n f)) lt)
      ∙ tab_at n f i d lt)
      (eq-or-lt_of_le (le_of_suc-le-suc h))

  -- a table is the tab of its rows
  pub tab_get_d : (l : List A) (d : A) → tab (length l) (λ i. get_or l i d) ≡ l
  tab_get_d l d =
      let e = tab_length (length l) (λ i. get_or l i d) in
      ext_get_or d (tab (length l) (λ i. get_or l i d)) l e
      (λ i h. tab_at (length l) (λ k. get_or l k d) i d (rw e at h))

-- map of a tab
module _ {A B : Type 0} (g : A → B) where
  map_snoc : (xs : List A) (x : A) → map g (xs ++ (x ∷ [])) ≡ map g xs ++ (g x ∷ [])
  map_snoc [] x = refl
  map_snoc (y ∷ ys) x = rw (map_snoc ys x)

  pub map_tab : (n : ℕ) (f : ℕ → A) → map g (tab n f) ≡ tab n (λ i. g (f i))
  unfolding tab
  map_tab zero f = refl
  map_tab (suc n) f = rw (map_snoc (tab n f) (f n), map_tab n f)

-- zip_with of two tabs
module _ {A B C : Type 0} (g : A → B → C) where
  zip_snoc : (xs : List A) (ys : List B) (x : A) (y : B) → length xs ≡ length ys
      → zip_with g (xs ++ (x ∷ [])) (ys ++ (y ∷ [])) ≡ zip_with g xs ys ++ (g x y ∷ [])
  unfolding zip_with
  zip_snoc [] [] x y e = refl
  zip_snoc [] (b ∷ ys) x y e = absurd (let z : 0 ≡ suc (length ys) = e in omega arith)
  zip_snoc (a ∷ xs) [] x y e = absurd (let z : suc (length xs) ≡ 0 = e in omega arith)
  zip_snoc (a ∷ xs) (b ∷ ys) x y e =
      rw (zip_snoc xs ys x y (let z : suc (length xs) ≡ suc (length ys) = e in omega arith))

  pub zip_tab : (n : ℕ) (a : ℕ → A) (b : ℕ → B) → zip_with g (tab n a) (tab n b) ≡ tab n (λ i. g (a i) (b i))
  unfolding zip_with tab
  zip_tab zero a b = refl
  zip_tab (suc n) a b =
      rw (zip_snoc (tab n a) (tab n b) (a n) (b n) (tab_length n a ∙ sym (tab_length n b)), zip_tab n a b)

-- ---- outputs
module _ {B : Type 0} where
  pub spliced_length : (at : ℕ) (row out : List B) → at + length row ≤ length out
      → length (spliced at row out) ≡ length out
  unfolding spliced
  spliced_length at row out h =
      simp (length-append, length-take, length-drop) (omega arith)

  -- the law of every loop that writes rows: a row put after the content is content too
  pub put_written : (content row out : List B) (at : ℕ) → at ≡ length content → at + length row ≤ length out
      → spliced at row (written content out) ≡ written (content ++ row) out
  unfolding spliced written
  put_written content row out at e h =
      let rest = drop (length content) out in
      let front : take at (content ++ rest) ≡ content = take_at content rest at (sym e) in
      let back : drop (at + length row) (content ++ rest) ≡ drop (length (content ++ row)) out =
      rw (e, drop-append-add, drop-drop, length-append) in
      rw (front, back)

  pub written_length : (content out : List B) → length content ≤ length out
      → length (written content out) ≡ length out
  unfolding written
  written_length content out h = simp (length-append, length-drop) (omega arith)

  pub written_none : (out : List B) → written [] out ≡ out
  unfolding written
  written_none out = refl

  -- a loop's turn: what `put` leaves is the output with one more row written
  pub put_step : (content row old : List B) {longer out new : List B} {at : ℕ} → out ≡ written content old
      → new ≡ spliced at row out → at ≡ length content → longer ≡ content ++ row
      → at + length row ≤ length old → new ≡ written longer old
  put_step content row old {longer} {out} {new} {at} so_far put here more fits =
      put
      ∙ ap (λ (o : List B). spliced at row o) so_far
      ∙ put_written content row old at here fits
      ∙ ap (λ (w : List B). written w old) (sym more)

module _ {B : Type 0} where
  -- a row copied over the part of an output from word at on
  pub put_part : (at : ℕ) (row out : List B) {new : List B} → new ≡ row
      → put_mid at (at + length row - at) out new ≡ spliced at row out
  unfolding spliced
  put_part at row out is =
      let size : at + length row - at ≡ length row = omega arith in
      rw (is, size, drop-drop) (sym (append_assoc (take at out) row (drop (at + length row) out)))

-- ---- what a loop that puts a row keeps before word k: the first k words of the row are in place
pub record Putting {B : Type 0} (at : ℕ) (row old : List B) (k : ℕ) (out : List B) : Type 0 where
  pub below : k ≤ length row
  pub put : out ≡ paste old at row k
  pub kept : length out ≡ length old

module _ {B : Type 0} {at : ℕ} {row old : List B} where
  pub putting_none : Putting at row old 0 old
  putting_none = record { below = omega arith; put = paste-zero old at row; kept = refl }

  module _ {k : ℕ} {out : List B} (putting : Putting at row old k out) where
    pub putting_more : (d : B) → k < length row → at + length row ≤ length old
        → Putting at row old (k + 1) (set out (at + k) (get_or row k d))
    putting_more d less fits = record {
      below = omega arith;
      put = let room : at + k < length old = omega arith in
          rw (putting.put, add-one, paste-suc old at row k d room less);
      kept = simp length-set putting.kept;
    }

    -- the end
    pub all_put : length row ≤ k → out ≡ spliced at row old
    unfolding spliced
    all_put past = let end : k ≡ length row = omega (arith, putting.below) in rw (putting.put, end, take-length)

-- two tabs that agree below n
module _ {A : Type 0} where
  pub tab_same : (n : ℕ) (f g : ℕ → A) → ((i : ℕ) → i < n → f i ≡ g i) → tab n f ≡ tab n g
  unfolding tab
  tab_same zero f g h = refl
  tab_same (suc n) f g h = rw (tab_same n f g (λ i lt. h i (le_step lt)), h n (le_refl (suc n)))

module _ {B : Type 0} where
  -- two rows put one after the other are one row
  pub spliced_twice : (at : ℕ) (xs ys out : List B) → at + length xs + length ys ≤ length out
      → spliced (at + length xs) ys (spliced at xs out) ≡ spliced at (xs ++ ys) out
  unfolding spliced
  spliced_twice at xs ys out h =
      let head = take at out ++ xs in
      let rest = drop (at + length xs) out in
      let long : length head ≡ at + length xs =
      length-append (take at out) xs
      ∙ ap (λ (k : ℕ). k + length xs) (length-take-le at out (omega arith)) in
      let front : take (at + length xs) (head ++ rest) ≡ head = take_at head rest (at + length xs) long in
      let back : drop (at + length xs + length ys) (head ++ rest) ≡ drop (at + length xs + length ys) out =
      sym (drop-drop (length ys) (at + length xs) (head ++ rest))
      ∙ ap (λ (l : List B). drop (length ys) l) (drop_at head rest (at + length xs) long)
      ∙ drop-drop (length ys) (at + length xs) out in
      ap₂ (λ (a b : List B). a ++ ys ++ b) front back
      ∙ ap₂ (λ (a : List B) (k : ℕ). a ++ drop k out) (append_assoc (take at out) xs ys)
      (add_assoc at (length xs) (length ys) ∙ ap (λ (k : ℕ). at + k) (sym (length-append xs ys)))

pub map_at : (f : ℕ → ℕ) (l : List ℕ) (k : ℕ) → k < length l → get_or (map f l) k 0 ≡ f (get_or l k 0)
map_at f [] k h = absurd (not-suc-le-zero h)
map_at f (x ∷ xs) zero h = refl
map_at f (x ∷ xs) (suc k) h = map_at f xs k (le_of_suc-le-suc h)

-- a whole table put at the front
pub put_all : {B : Type 0} (table out : List B) → spliced 0 table out ≡ written table out
unfolding spliced written
put_all table out = ap (λ (k : ℕ). table ++ drop k out) (zero-add (length table))
