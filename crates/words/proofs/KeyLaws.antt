-- Names as bytes, and what the chains need of each kind of key: equal keys lie in one bucket.
use Prim.Native.Nat.{ℕ, zero, suc, ◌+◌, ◌*◌, ◌-◌, ◌/◌, ◌%◌, ◌<◌, ◌≤◌, min}
use mathlib.Core.Path.{◌≡◌, refl, sym, ap, ap₂, ◌∙◌, subst}
use mathlib.Core.List.{List, [], ◌∷◌}
use mathlib.Core.Bool.{Bool, true, false, not, ◌&&◌, ◌||◌, false≢true, cond}
use native.Mathlib.Omega.{arith}
use native.Mathlib.Nat.{div-add-mod', le_of_lt, le_trans, mul-le-mul_right}
use lib.ListN.{length, get_or, take, drop, drop_of_length-le, length-drop}
use lib.Seq.{take_all}
use lib.Dec.{eqb, ltb}
use lib.Pointwise.{pointwise}
use borrow.Author.Tests.{eq-eqb, eqb-true, eqb-false, le-leb, lt-leb, ltb-true, ltb-false, ne_eqb}
use Rattle.std.specs.Prelude.{Option, Some, None}
use Rattle.std.specs.Option.{MatchOption, is_some, unwrap_or}
use Rattle.std.specs.List.{fold, slice_range}
use mathlib.Core.Logic.{◌⊎◌, ⊎_elim}
use Rattle.model.specs.Records.{Span, direct, JunctionKind}
use Rattle.model.specs.Text.{bytes_of, equal_bytes, name_bytes, placed, same_in}
use Rattle.words.specs.Keys.{bears, hash_from, hash_name, id_hash, is_id, is_key, key_hash, is_kind_of}
use Rattle.words.specs.Keys.{lane_hash, name_hash}
use Rattle.words.specs.Chain.{stored}
use Rattle.words.specs.Rows.{any, last_of, name_at, span}
use Rattle.words.proofs.Chains.{any_last, last_any}
use Rattle.words.proofs.Laws.{any_more}
use Rattle.words.proofs.Scans.{left_on, right_on, row_fits}

-- ---- bytes
pub equal_refl : (a : List ℕ) → equal_bytes a a ≡ true
equal_refl [] = refl
equal_refl (x ∷ xs) = ap₂ ◌&&◌ (eq-eqb x x refl) (equal_refl xs)

pub equal_on : (a b : List ℕ) → a ≡ b → equal_bytes a b ≡ true
equal_on a b e = subst (λ (l : List ℕ). equal_bytes a l ≡ true) e (equal_refl a)

pub equal_sound : (a b : List ℕ) → equal_bytes a b ≡ true → a ≡ b
equal_sound [] [] e = refl
equal_sound [] (y ∷ ys) e = absurd (false≢true e)
equal_sound (x ∷ xs) [] e = absurd (false≢true e)
equal_sound (x ∷ xs) (y ∷ ys) e =
    ap₂ ◌∷◌ (eqb-true x y (left_on (eqb x y) (equal_bytes xs ys) e))
    (equal_sound xs ys (right_on (eqb x y) (equal_bytes xs ys) e))

pub equal_off : (a b : List ℕ) → (a ≡ b → ⊥) → equal_bytes a b ≡ false
equal_off a b h = go (equal_bytes a b) refl
  where
    go : (t : Bool) → equal_bytes a b ≡ t → equal_bytes a b ≡ false
    go true e = absurd (h (equal_sound a b e))
    go false e = e

-- what `==` answers of two names' bytes
pub pointwise_is : (a b : List ℕ) → pointwise eqb a b ≡ equal_bytes a b
pointwise_is [] [] = refl
pointwise_is [] (y ∷ ys) = refl
pointwise_is (x ∷ xs) [] = refl
pointwise_is (x ∷ xs) (y ∷ ys) = ap (λ t. eqb x y && t) (pointwise_is xs ys)

pub same_is : (text : List ℕ) (m n : Span) {a b : List ℕ} {r : Bool} → r ≡ pointwise eqb a b → a ≡ bytes_of text m
    → b ≡ bytes_of text n → r ≡ same_in text m n
unfolding same_in
same_is text m n {a} {b} is first second = is ∙ pointwise_is a b ∙ ap₂ equal_bytes first second

-- a name's bytes, whatever its words are: as far as the text has them
pub name_past : (text : List ℕ) (s n : ℕ) → length text < s
    → take 0 (drop (length text) text) ≡ bytes_of text (span s n)
unfolding bytes_of
name_past text s n h = sym (ap (take n) (drop_of_length-le text (le_of_lt h)) ∙ none n)
  where
    none : (n : ℕ) → ◌≡◌ {A = List ℕ} (take n []) []
    none zero = refl
    none (suc n) = refl

pub name_cut : (text : List ℕ) (s n : ℕ) → s ≤ length text → length text < s + n
    → take (length text - s) (drop s text) ≡ bytes_of text (span s n)
unfolding bytes_of
name_cut text s n h l =
    let d = length-drop s text in
    take_all (length text - s) (drop s text) (omega arith) ∙ sym (take_all n (drop s text) (omega arith))

-- the part of the text between a name's ends, each cut down to the text's length
abbrev pub cut_part : List ℕ → ℕ → ℕ → List ℕ
cut_part text s n = take (min (s + n) (length text) - min s (length text)) (drop (min s (length text)) text)

pub name_any : (text : List ℕ) (s n : ℕ) → cut_part text s n ≡ bytes_of text (span s n)
unfolding bytes_of
name_any text s n = go (ltb (length text) s) refl (ltb (length text) (s + n)) refl
  where
    -- with the two ends worked out
    ends : {size start : ℕ} → min (s + n) (length text) - min s (length text) ≡ size → min s (length text) ≡ start
        → cut_part text s n ≡ take size (drop start text)
    ends size_is start_is = ap₂ (λ (i j : ℕ). take i (drop j text)) size_is start_is

    go : (b : Bool) → ltb (length text) s ≡ b → (d : Bool) → ltb (length text) (s + n) ≡ d
        → cut_part text s n ≡ bytes_of text (span s n)
    go true e d f =
        let starts-past : length text < s = ltb-true (length text) s e in
        ends {size = 0} {start = length text} (omega arith) (omega arith) ∙ name_past text s n starts-past
    go false e true f =
        let starts-in : s ≤ length text = ltb-false (length text) s e in
        let ends_past : length text < s + n = ltb-true (length text) (s + n) f in
        ends {size = length text - s} {start = s} (omega arith) (omega arith) ∙ name_cut text s n starts-in ends_past
    go false e false f =
        let starts-in : s ≤ length text = ltb-false (length text) s e in
        let ends-in : s + n ≤ length text = ltb-false (length text) (s + n) f in
        ends {size = n} {start = s} (omega arith) (omega arith)

-- some row below i has p just where the last such row is one
pub any_is : (i : ℕ) (p : ℕ → Bool) → any i p ≡ not (eqb (last_of i p) 0)
any_is i p = go (eqb (last_of i p) 0) refl
  where
    go : (b : Bool) → eqb (last_of i p) 0 ≡ b → any i p ≡ not b
    go true e = last_any i p (eqb-true (last_of i p) 0 e)
    go false e = any_last i p (eqb-false (last_of i p) 0 e)

-- a row that is found is one that has p
pub found : (n : ℕ) (row : Option ℕ) (p : ℕ → Bool) → stored row ≡ last_of n p → is_some row ≡ any n p
found n None p e = sym (last_any n p (sym e))
found n (Some r) p e = sym (any_last n p (λ none. omega arith))

-- a link loop's turn: whether two rows below i + 1 are alike
pub met_more : (i : ℕ) (B p : ℕ → Bool) {r t : Bool} {f : ℕ} → r ≡ (t || not (eqb f 0)) → t ≡ any i B
    → f ≡ last_of i p → B i ≡ any i p → r ≡ any (i + 1) B
met_more i B p e h g k =
    e ∙ ap₂ (λ a (m : ℕ). a || not (eqb m 0)) h g ∙ sym (any_more i B ∙ ap (λ b. any i B || b) (k ∙ any_is i p))

-- the hash as a fold over the bytes
pub hash_fold : (h : ℕ) (bytes : List ℕ) → fold (λ h b. (h * 31 + b) % 16384) h bytes ≡ hash_from h bytes
unfolding hash_from
hash_fold h [] = refl
hash_fold h (b ∷ bs) = hash_fold ((h * 31 + b) % 16384) bs

pub hash_small : (h : ℕ) (bytes : List ℕ) → h < 16384 → hash_from h bytes < 16384
unfolding hash_from
hash_small h [] small = small
hash_small h (b ∷ bs) small = hash_small ((h * 31 + b) % 16384) bs (omega arith)

-- ---- equal names have equal hashes
pub same_hash : (text : List ℕ) (a b : Span) → same_in text a b ≡ true → hash_name text a ≡ hash_name text b
unfolding same_in hash_name
same_hash text a b e = ap (hash_from 7) (equal_sound (bytes_of text a) (bytes_of text b) e)

pub only_name : (text : List ℕ) (w k : ℕ) (ws : List ℕ) (n : Span) (q : ℕ) → bears text w k ws n q ≡ true
    → name_hash text w k ws q ≡ hash_name text n
unfolding bears name_hash
only_name text w k ws n q e = same_hash text (name_at w k ws q) n e

pub only_id : (lanes : List ℕ) (id q : ℕ) → is_id lanes id q ≡ true → id_hash lanes q ≡ id % 16384
unfolding is_id id_hash
only_id lanes id q e = ap (λ (k : ℕ). k % 16384) (eqb-true (get_or lanes (q * 10) 0) id e)

pub only_key : (lanes owner : List ℕ) (road s k q : ℕ) → is_key lanes owner road s k q ≡ true
    → lane_hash lanes owner q ≡ key_hash road s k
unfolding is_key lane_hash
only_key lanes owner road s k q e =
    let a = eqb (get_or owner q 0) road in
    let b = eqb (get_or lanes (q * 10 + 3) 0) s in
    let d = eqb (get_or lanes (q * 10 + 4) 0) k in
    let ab : (a && b) ≡ true = left_on (a && b) d e in
    ap (λ (h : ℕ). key_hash h (get_or lanes (q * 10 + 3) 0) (get_or lanes (q * 10 + 4) 0))
    (eqb-true (get_or owner q 0) road (left_on a b ab))
    ∙ ap₂ (λ (x y : ℕ). key_hash road x y) (eqb-true (get_or lanes (q * 10 + 3) 0) s (right_on a b ab))
    (eqb-true (get_or lanes (q * 10 + 4) 0) k (right_on (a && b) d e))

-- a junction of a kind and a name
pub only_kind : (kind : JunctionKind) (text junctions : List ℕ) (n : Span) (q : ℕ)
    → is_kind_of kind text junctions n q ≡ true → name_hash text 5 0 junctions q ≡ hash_name text n
unfolding is_kind_of name_hash
only_kind kind text junctions n q e = same_hash text (name_at 5 0 junctions q) n (right_on _ _ e)

pub only_direct : (text junctions : List ℕ) (n : Span) (q : ℕ) → is_kind_of direct text junctions n q ≡ true
    → name_hash text 5 0 junctions q ≡ hash_name text n
only_direct = only_kind direct

pub row_in : (n w k i len : ℕ) → i < n → n * w ≤ len → k < w → i * w + k < len
row_in n w k i len h l m = let a = row_fits n w i h in omega arith

pub rows_in : (n w : ℕ) → n / w * w ≤ n
rows_in n w = let b = div-add-mod' n w in omega arith

pub rows_le : (i n w len : ℕ) → i ≤ n → n * w ≤ len → i * w ≤ len
rows_le i n w len h l = le_trans (mul-le-mul_right w h) l

-- ---- a lane's key, test by test
module _ (lanes owner : List ℕ) (w s k r : ℕ) where
  pub key_other_road : (get_or owner r 0 ≡ w → ⊥) → false ≡ is_key lanes owner w s k r
  unfolding is_key
  key_other_road n =
      sym (ap (λ b. b && eqb (get_or lanes (r * 10 + 3) 0) s && eqb (get_or lanes (r * 10 + 4) 0) k)
      (ne_eqb (get_or owner r 0) w n))

  pub key_other_section : get_or owner r 0 ≡ w → (get_or lanes (r * 10 + 3) 0 ≡ s → ⊥)
      → false ≡ is_key lanes owner w s k r
  unfolding is_key
  key_other_section e n =
      sym (ap₂ (λ a b. a && b && eqb (get_or lanes (r * 10 + 4) 0) k) (eq-eqb (get_or owner r 0) w e)
      (ne_eqb (get_or lanes (r * 10 + 3) 0) s n))

  pub key_number : get_or owner r 0 ≡ w → get_or lanes (r * 10 + 3) 0 ≡ s
      → eqb (get_or lanes (r * 10 + 4) 0) k ≡ is_key lanes owner w s k r
  unfolding is_key
  key_number e f =
      sym (ap₂ (λ a b. a && b && eqb (get_or lanes (r * 10 + 4) 0) k) (eq-eqb (get_or owner r 0) w e)
      (eq-eqb (get_or lanes (r * 10 + 3) 0) s f))

-- ---- a name's part of the text
pub name_inside : (text : List ℕ) (s n : ℕ) → s + n ≤ length text
    → take (s + n - s) (drop s text) ≡ name_bytes text (span s n)
unfolding name_bytes placed bytes_of
name_inside text s n h =
    ap (λ (k : ℕ). take k (drop s text)) (let e : s + n - s ≡ n = omega arith in e)
    ∙ sym (ap (λ b. cond b (take n (drop s text)) []) (le-leb (s + n) (length text) h))

pub name_outside : (text : List ℕ) (s n : ℕ) → length text < s + n → [] ≡ name_bytes text (span s n)
unfolding name_bytes placed
name_outside text s n h = sym (ap (λ b. cond b (bytes_of text (span s n)) []) (lt-leb (s + n) (length text) h))

-- what the text has from s to s + n, or else the empty part
pub name_got : {A : Type 0} (now : A → List ℕ) (text : List ℕ) (s n : ℕ) (got : Option A) (empty : A)
    → MatchOption got ((s + n < s) ⊎ (length text < s + n))
    (λ x. (s ≤ s + n) × (s + n ≤ length text) × (now x ≡ slice_range text s (s + n)) × (length (now x) + s ≡ s + n))
    → now empty ≡ [] → now (unwrap_or got empty) ≡ name_bytes text (span s n)
name_got now text s n None empty past none =
    none ∙ name_outside text s n (⊎_elim (λ e. absurd (omega arith)) (λ e. e) past)
name_got now text s n (Some part) empty has none = has.2 ∙ name_inside text s n has.1
