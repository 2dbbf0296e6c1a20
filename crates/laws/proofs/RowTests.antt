-- The rows of a table, the tests over them and the searches in them, by row numbers: one row more, the row that
-- fails, the row that is found.
use mathlib.Core.Path.{◌≡◌, refl, sym, ◌∙◌, ap, ap₂}
use mathlib.Core.Bool.{Bool, true, false, not, ◌&&◌, ◌||◌, cond, and-true, and-false, or-true, or-false}
use mathlib.Core.Option.{none, some}
use mathlib.Core.List.{List, [], ◌∷◌, ◌++◌}
use Prim.Native.Nat.{ℕ, zero, suc, ◌+◌, ◌*◌, ◌/◌, ◌<◌, ◌≤◌}
use native.Mathlib.Nat.{suc-mul, zero-mul, not-suc-le-zero, le_of_suc-le-suc}
use native.Mathlib.Numerals.{add-one}
use native.Mathlib.Omega.{arith}
use lib.Dec.{eqb}
use lib.ListN.{length, take, drop, get_or, length-append}
use lib.Seq.{drop-drop, get_or-take, get_or-drop, take-suc, take_all}
use borrow.Author.Tests.{not-true}
use Rattle.model.specs.Calls.{row_named}
use Rattle.model.specs.Lists.{distinct, every, final, first, gather, or_else, some?}
use Rattle.model.specs.Records.{Road, Span}
use Rattle.model.specs.Repair.{road_of}
use Rattle.model.specs.Rows.{parts_fit, rows, rows_from, table, word}
use Rattle.laws.proofs.Lay.{fit_first, fit_le, fit_rest}
use Rattle.laws.proofs.ListTests.{and_left, and_right, every_append, some?_append}
use Rattle.laws.proofs.Valid.{Alike}
use Rattle.laws.proofs.WordsReversed.{gather_append}

-- ---- row r of a table, and word k of it
module _ {A : Type 0} where
  rows_at : (w n : ℕ) (ws : List A) (r : ℕ) → r < n → get_or (rows w n ws) r [] ≡ take w (drop (r * w) ws)
  rows_at w zero ws r h = absurd (not-suc-le-zero h)
  rows_at w (suc n) ws zero h = ap (λ (k : ℕ). take w (drop k ws)) (sym (zero-mul w))
  rows_at w (suc n) ws (suc r) h =
      rows_at w n (drop w ws) r (le_of_suc-le-suc h)
      ∙ ap (take w) (drop-drop (r * w) w ws
      ∙ (let one-row-more = suc-mul r w in
      let words : w + r * w ≡ suc r * w = omega arith in
      ap (λ (k : ℕ). drop k ws) words))

  pub table_at : (w : ℕ) (ws : List A) (r : ℕ) → r < length ws / w → get_or (table w ws) r [] ≡ take w (drop (r * w) ws)
  unfolding table
  table_at w ws r h = rows_at w (length ws / w) ws r h

-- word k of row r stands at r * w + k
pub word_at : (w : ℕ) (ws : List ℕ) (r k : ℕ) → r < length ws / w → k < w
    → word (get_or (table w ws) r []) k ≡ get_or ws (r * w + k) 0
word_at w ws r k h l =
    ap (λ (x : List ℕ). get_or x k 0) (table_at w ws r h)
    ∙ get_or-take w (drop (r * w) ws) k 0 l
    ∙ get_or-drop (r * w) ws k 0

-- ---- tests over rows, one row at a time
module _ {A : Type 0} (p : A → Bool) where
  -- one row more
  pub every_more : (xs : List A) (r : ℕ) (d : A) → r < length xs
      → every p (take (r + 1) xs) ≡ every p (take r xs) && p (get_or xs r d)
  every_more xs r d h =
      ap (λ (k : ℕ). every p (take k xs)) (add-one r)
      ∙ ap (every p) (take-suc xs r d h)
      ∙ every_append p (take r xs) (get_or xs r d ∷ [])
      ∙ ap (λ b. every p (take r xs) && b) (and-true (p (get_or xs r d)))

  pub every_all : (xs : List A) (n : ℕ) → length xs ≤ n → every p (take n xs) ≡ every p xs
  every_all xs n h = ap (every p) (take_all n xs h)

  -- a row that fails
  pub every_fails : (xs : List A) (r : ℕ) (d : A) → r < length xs → p (get_or xs r d) ≡ false → every p xs ≡ false
  every_fails [] r d h e = absurd (not-suc-le-zero h)
  every_fails (x ∷ xs) zero d h e = ap (λ b. b && every p xs) e
  every_fails (x ∷ xs) (suc r) d h e =
      ap (λ b. p x && b) (every_fails xs r d (le_of_suc-le-suc h) e) ∙ and-false (p x)

  pub some_more : (xs : List A) (r : ℕ) (d : A) → r < length xs
      → some? p (take (r + 1) xs) ≡ some? p (take r xs) || p (get_or xs r d)
  some_more xs r d h =
      ap (λ (k : ℕ). some? p (take k xs)) (add-one r)
      ∙ ap (some? p) (take-suc xs r d h)
      ∙ some?_append p (take r xs) (get_or xs r d ∷ [])
      ∙ ap (λ b. some? p (take r xs) || b) (or-false (p (get_or xs r d)))

  pub some_found : (xs : List A) (r : ℕ) (d : A) → r < length xs → p (get_or xs r d) ≡ true → some? p xs ≡ true
  some_found [] r d h e = absurd (not-suc-le-zero h)
  some_found (x ∷ xs) zero d h e = ap (λ b. b || some? p xs) e
  some_found (x ∷ xs) (suc r) d h e = ap (λ b. p x || b) (some_found xs r d (le_of_suc-le-suc h) e) ∙ or-true (p x)

-- no two alike: the first is like none of those after it
pub distinct_later : {A : Type 0} (q : A → A → Bool) (x : A) (xs : List A) (r : ℕ) (d : A) → distinct q (x ∷ xs) ≡ true
    → r < length xs → q x (get_or xs r d) ≡ false
distinct_later q x xs r d once h = go (q x (get_or xs r d)) refl
  where
    none_like : some? (q x) xs ≡ false
    none_like = not-true (some? (q x) xs) (and_left (not (some? (q x) xs)) (distinct q xs) once)

    go : (b : Bool) → q x (get_or xs r d) ≡ b → b ≡ false
    go true e = sym (some_found (q x) xs r d h e) ∙ none_like
    go false e = refl

-- the row that comes is like none of those before it (for a test that is the same both ways)
module _ {A : Type 0} (q : A → A → Bool) (swap : (a b : A) → q a b ≡ q b a) where
  pub distinct_snoc : (xs : List A) (y : A) → distinct q (xs ++ (y ∷ [])) ≡ distinct q xs && not (some? (q y) xs)
  distinct_snoc [] y = refl
  distinct_snoc (x ∷ xs) y = ap₂ (λ a b. not a && b) (some?_append (q x) xs (y ∷ [])) (distinct_snoc xs y)
      ∙ go (some? (q x) xs) (q x y) (q y x) (swap x y) (distinct q xs) (some? (q y) xs)
    where
      go : (a b c : Bool) → b ≡ c → (d e : Bool)
          → not (a || (b || false)) && (d && not e) ≡ not a && d && not (c || e)
      go true b c h d e = refl
      go false true true h true true = refl
      go false true true h true false = refl
      go false true true h false e = refl
      go false false false h true e = refl
      go false false false h false e = refl
      go false true false h d e = absurd (mathlib.Core.Bool.true≢false h)
      go false false true h d e = absurd (mathlib.Core.Bool.false≢true h)

  pub distinct_more : (xs : List A) (r : ℕ) (d : A) → r < length xs
      → distinct q (take (r + 1) xs) ≡ distinct q (take r xs) && not (some? (q (get_or xs r d)) (take r xs))
  distinct_more xs r d h =
      ap (λ (k : ℕ). distinct q (take k xs)) (add-one r)
      ∙ ap (distinct q) (take-suc xs r d h)
      ∙ distinct_snoc (take r xs) (get_or xs r d)

-- parts, one row at a time: where the rows so far end
abbrev pub end_of : ℕ → ℕ → List (List ℕ) → ℕ
end_of kc i [] = i
end_of kc i (r ∷ rs) = end_of kc (i + word r kc) rs

pub parts_fit_append : (kf kc i n : ℕ) (rs ss : List (List ℕ)) → parts_fit kf kc i (end_of kc i rs) rs ≡ true
    → parts_fit kf kc i n (rs ++ ss) ≡ parts_fit kf kc (end_of kc i rs) n ss
parts_fit_append kf kc i n [] ss h = refl
parts_fit_append kf kc i n (r ∷ rs) ss h =
    ap (λ b. b && parts_fit kf kc (i + word r kc) n (rs ++ ss))
    (and_left (eqb (word r kf) i) (parts_fit kf kc (i + word r kc) (end_of kc (i + word r kc) rs) rs) h)
    ∙ parts_fit_append kf kc (i + word r kc) n rs ss
    (and_right (eqb (word r kf) i) (parts_fit kf kc (i + word r kc) (end_of kc (i + word r kc) rs) rs) h)

-- a part that fits lies in its table, and begins where the rows before it end
pub part_in : (kf kc i n : ℕ) (rs : List (List ℕ)) → parts_fit kf kc i n rs ≡ true → (r : ℕ) → r < length rs
    → word (get_or rs r []) kf + word (get_or rs r []) kc ≤ n
part_in kf kc i n [] h r l = absurd (not-suc-le-zero l)
part_in kf kc i n (x ∷ rs) h zero l =
    omega (arith, fit_le kf kc (i + word x kc) n rs (fit_rest kf kc i n x rs h), fit_first kf kc i n x rs h)
part_in kf kc i n (x ∷ rs) h (suc r) l =
    part_in kf kc (i + word x kc) n rs (fit_rest kf kc i n x rs h) r (le_of_suc-le-suc l)

pub part_begins : (kf kc i n : ℕ) (rs : List (List ℕ)) → parts_fit kf kc i n rs ≡ true → (r : ℕ) → r < length rs
    → word (get_or rs r []) kf ≡ end_of kc i (take r rs)
part_begins kf kc i n [] h r l = absurd (not-suc-le-zero l)
part_begins kf kc i n (x ∷ rs) h zero l = fit_first kf kc i n x rs h
part_begins kf kc i n (x ∷ rs) h (suc r) l =
    part_begins kf kc (i + word x kc) n rs (fit_rest kf kc i n x rs h) r (le_of_suc-le-suc l)

-- ---- the words of one row more, after those so far
pub gather_more : {A B : Type 0} (f : A → List B) (xs : List A) (r : ℕ) (d : A) → r < length xs
    → gather f (take (r + 1) xs) ≡ gather f (take r xs) ++ f (get_or xs r d)
gather_more {B = B} f xs r d h =
    ap (λ (k : ℕ). gather f (take k xs)) (add-one r)
    ∙ ap (gather f) (take-suc xs r d h)
    ∙ gather_append f (take r xs) (get_or xs r d ∷ [])
    ∙ ap (λ (l : List B). gather f (take r xs) ++ l) (mathlib.Core.List.append-nil (f (get_or xs r d)))

pub rows_from_append : {X A : Type 0} (row : ℕ → X → List ℕ) (f : X → List A) (i : ℕ) (xs ys : List X)
    → rows_from row f i (xs ++ ys) ≡ rows_from row f i xs ++ rows_from row f (i + length (gather f xs)) ys
rows_from_append row f i [] ys = ap (λ (k : ℕ). rows_from row f k ys) (sym (native.Mathlib.Nat.add-zero i))
rows_from_append row f i (x ∷ xs) ys =
    ap (λ (l : List ℕ). row i x ++ l) (rows_from_append row f (i + length (f x)) xs ys)
    ∙ sym (mathlib.Core.List.append_assoc (row i x) (rows_from row f (i + length (f x)) xs)
    (rows_from row f (i + length (f x) + length (gather f xs)) ys))
    ∙ ap (λ (k : ℕ). (row i x ++ rows_from row f (i + length (f x)) xs) ++ rows_from row f k ys)
    (native.Mathlib.Nat.add_assoc i (length (f x)) (length (gather f xs))
    ∙ ap (λ (k : ℕ). i + k) (sym (length-append (f x) (gather f xs))))

-- the row's part begins at the count of the parts so far
pub rows_from_more : {X A : Type 0} (row : ℕ → X → List ℕ) (f : X → List A) (xs : List X) (r : ℕ) (d : X)
    → r < length xs →
    rows_from row f 0 (take (r + 1) xs)
    ≡ rows_from row f 0 (take r xs) ++ row (length (gather f (take r xs))) (get_or xs r d)
rows_from_more row f xs r d h =
    ap (λ (k : ℕ). rows_from row f 0 (take k xs)) (add-one r)
    ∙ ap (rows_from row f 0) (take-suc xs r d h)
    ∙ rows_from_append row f 0 (take r xs) (get_or xs r d ∷ [])
    ∙ ap (λ (l : List ℕ). rows_from row f 0 (take r xs) ++ l)
    (mathlib.Core.List.append-nil (row (0 + length (gather f (take r xs))) (get_or xs r d))
    ∙ ap (λ (k : ℕ). row k (get_or xs r d)) (native.Mathlib.Nat.zero-add (length (gather f (take r xs)))))

-- ---- searches by row numbers
module _ {A : Type 0} (p : A → Bool) (d : A) where
  pub first_at : (xs : List A) (r : ℕ) → r < length xs → p (get_or xs r d) ≡ true
      → ((i : ℕ) → i < r → p (get_or xs i d) ≡ false) → first p xs ≡ some (get_or xs r d)
  first_at [] r l h k = absurd (not-suc-le-zero l)
  first_at (x ∷ xs) zero l h k = ap (λ b. cond b (some x) (first p xs)) h
  first_at (x ∷ xs) (suc r) l h k =
      ap (λ b. cond b (some x) (first p xs)) (k 0 (omega arith))
      ∙ first_at xs r (le_of_suc-le-suc l) h (λ i q. k (suc i) (omega arith))

  pub first_nowhere : (xs : List A) → ((i : ℕ) → i < length xs → p (get_or xs i d) ≡ false) → first p xs ≡ none
  first_nowhere [] k = refl
  first_nowhere (x ∷ xs) k =
      ap (λ b. cond b (some x) (first p xs)) (k 0 (omega arith))
      ∙ first_nowhere xs (λ i q. k (suc i) (omega arith))

  pub final_nowhere : (xs : List A) → ((i : ℕ) → i < length xs → p (get_or xs i d) ≡ false) → final p xs ≡ none
  final_nowhere [] k = refl
  final_nowhere (x ∷ xs) k =
      ap₂ (λ o b. or_else o (cond b (some x) none)) (final_nowhere xs (λ i q. k (suc i) (omega arith)))
      (k 0 (omega arith))

  -- the last row that passes
  pub final_at : (xs : List A) (r : ℕ) → r < length xs → p (get_or xs r d) ≡ true
      → ((i : ℕ) → r < i → i < length xs → p (get_or xs i d) ≡ false) → final p xs ≡ some (get_or xs r d)
  final_at [] r l h k = absurd (not-suc-le-zero l)
  final_at (x ∷ xs) zero l h k =
      ap₂ (λ o b. or_else o (cond b (some x) none))
      (final_nowhere xs (λ i q. k (suc i) (omega arith) (omega arith))) h
  final_at (x ∷ xs) (suc r) l h k =
      ap (λ o. or_else o (cond (p x) (some x) none))
      (final_at xs r (le_of_suc-le-suc l) h (λ i q w. k (suc i) (omega arith) (omega arith)))

-- the road of a name, and its row
module _ (alike : Span → Span → Bool) where
  pub road_at_lem : (rs : List Road) (n : Span) (d : Road) → row_named alike rs n < length rs
      → road_of alike rs n ≡ some (get_or rs (row_named alike rs n) d)
  unfolding road_of
  road_at_lem [] n d h = absurd (not-suc-le-zero h)
  road_at_lem (r ∷ rs) n d h = go (alike r.name n) (road_at_lem rs n d) h
    where
      go : (b : Bool)
          → (row_named alike rs n < length rs
          → first (λ r. alike r.name n) rs ≡ some (get_or rs (row_named alike rs n) d))
          → cond b 0 (suc (row_named alike rs n)) < suc (length rs) →
          cond b (some r) (first (λ r. alike r.name n) rs)
          ≡ some (get_or (r ∷ rs) (cond b 0 (suc (row_named alike rs n))) d)
      go true ih l = refl
      go false ih l = ih (le_of_suc-le-suc l)

  pub road_unknown : (rs : List Road) (n : Span) → length rs ≤ row_named alike rs n → road_of alike rs n ≡ none
  unfolding road_of
  road_unknown [] n h = refl
  road_unknown (r ∷ rs) n h = go (alike r.name n) (road_unknown rs n) h
    where
      go : (b : Bool) → (length rs ≤ row_named alike rs n → first (λ r. alike r.name n) rs ≡ none)
          → suc (length rs) ≤ cond b 0 (suc (row_named alike rs n))
          → cond b (some r) (first (λ r. alike r.name n) rs) ≡ none
      go true ih l = absurd (not-suc-le-zero l)
      go false ih l = ih (le_of_suc-le-suc l)

  -- with no name twice, a row that bears the name is the row
  pub only_row : Alike alike → (rs : List Road) (n : Span) (d : Road)
      → distinct (λ (a b : Road). alike a.name b.name) rs ≡ true → (r : ℕ) → r < length rs
      → alike (get_or rs r d).name n ≡ true → row_named alike rs n ≡ r
  only_row A [] n d h r l e = absurd (not-suc-le-zero l)
  only_row A (x ∷ rs) n d h zero l e = ap (λ b. cond b 0 (suc (row_named alike rs n))) e
  only_row A (x ∷ rs) n d h (suc r) l e =
      ap₂ (λ (b : Bool) (k : ℕ). cond b 0 (suc k)) (other (alike x.name n) refl)
      (only_row A rs n d (and_right (not (some? (λ (b : Road). alike x.name b.name) rs))
      (distinct (λ (a b : Road). alike a.name b.name) rs) h) r (le_of_suc-le-suc l) e)
    where
      other : (b : Bool) → alike x.name n ≡ b → alike x.name n ≡ false
      other false q = q
      other true q =
          absurd (mathlib.Core.Bool.true≢false
          (sym (A.same_trans x.name n (get_or rs r d).name q (A.same_sym (get_or rs r d).name n e))
          ∙ distinct_later (λ (a b : Road). alike a.name b.name) x rs r d h (le_of_suc-le-suc l)))
