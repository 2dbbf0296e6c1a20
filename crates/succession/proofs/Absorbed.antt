-- Entries taken into a run one by one: what the run is in the end.
use Prim.Native.Nat.{ℕ, zero, suc, ◌+◌, ◌-◌, ◌*◌, ◌<◌, ◌≤◌}
use mathlib.Core.Path.{◌≡◌, refl, sym, ap, ap₂, ◌∙◌, subst}
use mathlib.Core.Bool.{Bool, true, false, not, ◌&&◌, cond}
use mathlib.Core.List.{List, [], ◌∷◌, ◌++◌, map, append-nil}
use native.Mathlib.Nat.{not-suc-le-zero, le_of_suc-le-suc, le_refl, add-zero}
use native.Mathlib.Omega.{arith}
use lib.ListN.{length, get_or, take, drop, length-append, take-append-drop}
use lib.Seq.{take_at, drop_at, drop-drop, length-take-le}
use borrow.Author.Tests.{eq-eqb, ne_eqb}
use lib.Seq.{get_or-drop}
use Rattle.model.specs.Lists.{insert, member, sort}
use Rattle.model.specs.Rows.{written}
use Rattle.model.specs.Succession.{Entry, away, entry_id, runs_away}
use Rattle.model.specs.Tables.{direction_of, lane_in}
use Rattle.laws.proofs.Bound.{length_insert}
use Rattle.laws.proofs.Sorting.{Ordered, sort_middle}
use Rattle.words.proofs.Laws.{written_length}
use Rattle.laws.proofs.Valid.{Each}
use Rattle.succession.specs.ByRow.{Room, Took, lane_at, lane_row_of, one_at, pair_entry}
use Rattle.succession.specs.Runs.{Rising, absorb, admit, take_in}
use Rattle.laws.proofs.Sorting.{ordered_insert}

-- ---- order
each_at : (P : ℕ → Type 0) (xs : List ℕ) (j : ℕ) → Each P xs → j < length xs → P (get_or xs j 0)
each_at P [] j h l = absurd (not-suc-le-zero l)
each_at P (x ∷ xs) zero h l = h.0
each_at P (x ∷ xs) (suc j) h l = each_at P xs j h.1 (le_of_suc-le-suc l)

at_each : (P : ℕ → Type 0) (xs : List ℕ) → ((j : ℕ) → j < length xs → P (get_or xs j 0)) → Each P xs
at_each P [] h = tt
at_each P (x ∷ xs) h = (h 0 (omega arith), at_each P xs (λ j l. h (suc j) (omega arith)))

pub ordered_rising : (xs : List ℕ) → Ordered xs → Rising xs
ordered_rising [] h i j a b = absurd (not-suc-le-zero b)
ordered_rising (x ∷ xs) h zero zero a b = le_refl x
ordered_rising (x ∷ xs) h zero (suc j) a b = each_at (λ y. x ≤ y) xs j h.0 (le_of_suc-le-suc b)
ordered_rising (x ∷ xs) h (suc i) zero a b = absurd (not-suc-le-zero a)
ordered_rising (x ∷ xs) h (suc i) (suc j) a b = ordered_rising xs h.1 i j (le_of_suc-le-suc a) (le_of_suc-le-suc b)

pub rising_ordered : (xs : List ℕ) → Rising xs → Ordered xs
rising_ordered [] r = tt
rising_ordered (x ∷ xs) r = (
  at_each (λ y. x ≤ y) xs (λ j l. r 0 (suc j) (omega arith) (omega arith)),
  rising_ordered xs (λ i j a b. r (suc i) (suc j) (omega arith) (omega arith)),
)

-- ---- taking in keeps the order, and adds at most one
module _ (both : Bool) where
  ordered_take_in : (x : ℕ) (xs : List ℕ) → Ordered xs → Ordered (take_in both x xs)
  ordered_take_in x xs h = go (both && member x xs)
    where
      go : (b : Bool) → Ordered (cond b xs (insert x xs))
      go true = h
      go false = ordered_insert x xs h

  pub ordered_absorb : (xs : List ℕ) (es : List Entry) → Ordered xs → Ordered (absorb both xs es)
  ordered_absorb xs [] h = h
  ordered_absorb xs (e ∷ es) h = ordered_absorb (admit both e xs) es (go (both && not (runs_away e)))
    where
      go : (b : Bool) → Ordered (cond b xs (take_in both (entry_id e) xs))
      go true = h
      go false = ordered_take_in (entry_id e) xs h

  length_take_in : (x : ℕ) (xs : List ℕ) → length (take_in both x xs) ≤ suc (length xs)
  length_take_in x xs = go (both && member x xs)
    where
      go : (b : Bool) → length (cond b xs (insert x xs)) ≤ suc (length xs)
      go true = omega arith
      go false = let e = length_insert x xs in omega arith

  pub length_absorb : (xs : List ℕ) (es : List Entry) → length (absorb both xs es) ≤ length xs + length es
  length_absorb xs [] = omega arith
  length_absorb xs (e ∷ es) =
      let a = length_absorb (admit both e xs) es in
      let b : length (admit both e xs) ≤ suc (length xs) = go (both && not (runs_away e)) in omega arith
    where
      go : (b : Bool) → length (cond b xs (take_in both (entry_id e) xs)) ≤ suc (length xs)
      go true = omega arith
      go false = length_take_in (entry_id e) xs

  pub absorb_append : (xs : List ℕ) (es fs : List Entry)
      → absorb both xs (es ++ fs) ≡ absorb both (absorb both xs es) fs
  absorb_append xs [] fs = refl
  absorb_append xs (e ∷ es) fs = absorb_append (admit both e xs) es fs

  -- what was there is never lost
  pub length_kept : (xs : List ℕ) (es : List Entry) → length xs ≤ length (absorb both xs es)
  length_kept xs [] = le_refl (length xs)
  length_kept xs (e ∷ es) =
      let a = length_kept (admit both e xs) es in
      let b : length xs ≤ length (admit both e xs) = go (both && not (runs_away e)) in omega arith
    where
      more : (b : Bool) → length xs ≤ length (cond b xs (insert (entry_id e) xs))
      more true = le_refl (length xs)
      more false = let q = length_insert (entry_id e) xs in omega arith

      go : (b : Bool) → length xs ≤ length (cond b xs (take_in both (entry_id e) xs))
      go true = le_refl (length xs)
      go false = more (both && member (entry_id e) xs)

-- ---- outputs
pub written_take : (n : ℕ) (old : List ℕ) → n ≤ length old → written (take n old) old ≡ old
unfolding written
written_take n old h = ap (λ (k : ℕ). take n old ++ drop k old) (length-take-le n old h) ∙ take-append-drop n old

pub written_front : (xs old : List ℕ) → take (length xs) (written xs old) ≡ xs
unfolding written
written_front xs old = take_at xs (drop (length xs) old) (length xs) refl

pub written_twice : (xs ys old : List ℕ) → length xs ≤ length ys → written ys (written xs old) ≡ written ys old
unfolding written
written_twice xs ys old h =
    let e : length ys ≡ length xs + (length ys - length xs) = omega arith in
    ap (λ (l : List ℕ). ys ++ l)
    (ap (λ (k : ℕ). drop k (xs ++ drop (length xs) old)) e
    ∙ sym (drop-drop (length ys - length xs) (length xs) (xs ++ drop (length xs) old))
    ∙ ap (drop (length ys - length xs)) (drop_at xs (drop (length xs) old) (length xs) refl)
    ∙ drop-drop (length ys - length xs) (length xs) old
    ∙ ap (λ (k : ℕ). drop k old) (let g : length xs + (length ys - length xs) ≡ length ys = omega arith in g))

-- ---- one function after another
module _ (both : Bool) (n : ℕ) where
  pub took_none : (old : List ℕ) → n ≤ length old → Took both n [] old old n
  took_none old h = record { list = sym (written_take n old h); size = sym (length-take-le n old h) }

  module _ (es : List Entry) (old mid : List ℕ) (m : ℕ) (t : Took both n es old mid m)
      (fits : n + length es ≤ length old) where
    size : length (take n old) ≡ n
    size = length-take-le n old (omega arith)

    inside : length (absorb both (take n old) es) ≤ length old
    inside = let a = length_absorb both (take n old) es in let b = size in omega arith

    pub took_long : length mid ≡ length old
    took_long = ap length t.list ∙ written_length (absorb both (take n old) es) old inside

    pub took_front : take m mid ≡ absorb both (take n old) es
    took_front = ap₂ take t.size t.list ∙ written_front (absorb both (take n old) es) old

    pub took_rising : Rising (take n old) → Rising (take m mid)
    took_rising r =
        subst Rising (sym took_front)
        (ordered_rising (absorb both (take n old) es)
        (ordered_absorb both (take n old) es (rising_ordered (take n old) r)))

    pub took_most : m ≤ n + length es
    took_most = let a = length_absorb both (take n old) es in let b = size in let c = t.size in omega arith

    pub room_after : (fs : List Entry) → Rising (take n old) → n + length (es ++ fs) ≤ length old → Room m fs mid
    room_after fs r h =
        record {
          rising = took_rising r;
          fits = let a = took_most in let b = took_long in let c = length-append es fs in omega arith;
        }

    pub took_more : (fs : List Entry) (new : List ℕ) (q : ℕ) → Took both m fs mid new q
        → Took both n (es ++ fs) old new q
    took_more fs new q u = record {
      list = u.list ∙ ap₂ (λ (a b : List ℕ). written (absorb both a fs) b) took_front t.list
          ∙ written_twice (absorb both (take n old) es) (absorb both (absorb both (take n old) es) fs) old
          (length_kept both (absorb both (take n old) es) fs)
          ∙ ap (λ (l : List ℕ). written l old) (sym (absorb_append both (take n old) es fs));
      size = u.size
          ∙ ap (λ (a : List ℕ). length (absorb both a fs)) took_front
          ∙ ap length (sym (absorb_append both (take n old) es fs));
    }

-- ---- the lane of a row
lane_word : (lanes : List ℕ) (r k : ℕ) → get_or (drop (r * 10) lanes) k 0 ≡ get_or lanes (r * 10 + k) 0
lane_word lanes r k = get_or-drop (r * 10) lanes k 0

id_at_lem : (lanes : List ℕ) (r : ℕ) (e : Bool)
    → entry_id (record { lane = lane_at lanes r; contact = e }) ≡ get_or lanes (r * 10) 0
unfolding entry_id lane_at lane_in
id_at_lem lanes r e = lane_word lanes r 0 ∙ ap (λ (k : ℕ). get_or lanes k 0) (add-zero (r * 10))

away_at : (lanes : List ℕ) (r : ℕ) (e : Bool)
    → runs_away (record { lane = lane_at lanes r; contact = e }) ≡ away (direction_of (get_or lanes (r * 10 + 5) 0)) e
unfolding runs_away lane_at lane_in
away_at lanes r e = ap (λ (k : ℕ). away (direction_of k) e) (lane_word lanes r 5)

module _ (both : Bool) (n : ℕ) (lanes : List ℕ) (e : Bool) (old : List ℕ) (r : ℕ) where
  stays : (b : Bool) → both && not (away (direction_of (get_or lanes (r * 10 + 5) 0)) e) ≡ b →
      absorb both (take n old) (one_at lanes (suc r) e)
      ≡ cond b (take n old) (take_in both (get_or lanes (r * 10) 0) (take n old))
  stays b q =
      ap₂ (λ (a : Bool) (k : ℕ). cond (both && not a) (take n old) (take_in both k (take n old))) (away_at lanes r e)
      (id_at_lem lanes r e)
      ∙ ap (λ (a : Bool). cond a (take n old) (take_in both (get_or lanes (r * 10) 0) (take n old))) q

  pub took_barred : n ≤ length old → both && not (away (direction_of (get_or lanes (r * 10 + 5) 0)) e) ≡ true
      → Took both n (one_at lanes (suc r) e) old old n
  took_barred h q =
      record {
        list = sym (written_take n old h) ∙ ap (λ (l : List ℕ). written l old) (sym (stays true q));
        size = sym (length-take-le n old h) ∙ ap length (sym (stays true q));
      }

  pub took_entered : both && not (away (direction_of (get_or lanes (r * 10 + 5) 0)) e) ≡ false
      → (new : List ℕ) (m : ℕ) → new ≡ written (take_in both (get_or lanes (r * 10) 0) (take n old)) old
      → m ≡ length (take_in both (get_or lanes (r * 10) 0) (take n old))
      → Took both n (one_at lanes (suc r) e) old new m
  took_entered q new m a b =
      record {
        list = a ∙ ap (λ (l : List ℕ). written l old) (sym (stays false q));
        size = b ∙ ap length (sym (stays false q));
      }

-- ---- a pair
module _ (pairs lanes owner : List ℕ) (w s : ℕ) (e : Bool) (k p : ℕ) where
  pub pair_other : (get_or pairs (p * 2) 0 ≡ k → ⊥) → pair_entry pairs lanes owner w s e k p ≡ []
  unfolding pair_entry
  pair_other n =
      ap (λ (b : Bool). cond b (one_at lanes (lane_row_of lanes owner w s (get_or pairs (p * 2 + 1) 0)) e) [])
      (ne_eqb (get_or pairs (p * 2) 0) k n)

  pub pair_leads : get_or pairs (p * 2) 0 ≡ k
      → pair_entry pairs lanes owner w s e k p
      ≡ one_at lanes (lane_row_of lanes owner w s (get_or pairs (p * 2 + 1) 0)) e
  unfolding pair_entry
  pair_leads q =
      ap (λ (b : Bool). cond b (one_at lanes (lane_row_of lanes owner w s (get_or pairs (p * 2 + 1) 0)) e) [])
      (eq-eqb (get_or pairs (p * 2) 0) k q)

-- ---- the run in the end: sorted, and for a two-way lane each once
pub absorbed_one_way : (ys : List ℕ) (es : List Entry) → absorb false (sort ys) es ≡ sort (ys ++ map entry_id es)
absorbed_one_way ys [] = ap sort (sym (append-nil ys))
absorbed_one_way ys (e ∷ es) =
    absorbed_one_way (entry_id e ∷ ys) es ∙ sym (sort_middle ys (entry_id e) (map entry_id es))
