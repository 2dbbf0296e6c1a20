-- Lists whose elements stand to one another in pairs, in the same order or in any: what keeps them so, and what takes
-- no heed of the order.
use mathlib.Core.Path.{◌≡◌, refl, sym, ◌∙◌, ap, ap₂}
use mathlib.Core.Bool.{Bool, true, false, not, ◌||◌, cond}
use mathlib.Core.Option.{Option, none, some}
use mathlib.Core.List.{List, [], ◌∷◌, ◌++◌, map, map-append, append_assoc, nil≢cons}
use Prim.Native.Nat.{ℕ, zero, suc, ◌<◌}
use native.Mathlib.Nat.{le_of_suc-le-suc, not-suc-le-zero}
use lib.Dec.{eqb}
use lib.ListN.{get_or, length}
use borrow.Author.Tests.{eq-eqb, eqb-true}
use Rattle.model.specs.Lists.{amend, bind_o, distinct, final, first, gather, insert, is_some, keep, list_o, or_else}
use Rattle.model.specs.Lists.{some?}
use Rattle.model.specs.Lists.{sort}
use Rattle.model.specs.Orders.{BothOrNone, neither, both, InAnyOrder, emptied, among, InOrder, ended, paired}
use Rattle.model.specs.Orders.{SameCollection}
use Rattle.laws.proofs.Basics.{keep_append}
use Rattle.laws.proofs.ByBytes.{keep_first}
use Rattle.laws.proofs.ListTests.{and_right}
use Rattle.laws.proofs.RowTests.{distinct_later}
use Rattle.laws.proofs.Sorting.{sort_middle}
use Rattle.laws.proofs.WordsReversed.{gather_append}

-- tests that agree on elements that stand to one another
abbrev pub Agree : {A B : Type 0} → (A → B → Type 0) → (A → Bool) → (B → Bool) → Type 0
Agree {A} {B} R p q = (x : A) (y : B) → R x y → q y ≡ p x

-- ---- two that are both there or both absent
module _ {A B : Type 0} {R : A → B → Type 0} where
  pub both_some : {o : Option A} {o' : Option B} → BothOrNone R o o' → is_some o' ≡ is_some o
  both_some neither = refl
  both_some (both r) = refl

  -- what is found for them: the same, or two that stand to one another again
  pub both_bind : {C : Type 0} {f : A → Option C} {g : B → Option C} → ((x : A) (y : B) → R x y → g y ≡ f x)
      → {o : Option A} {o' : Option B} → BothOrNone R o o' → bind_o o' g ≡ bind_o o f
  both_bind same neither = refl
  both_bind same (both {x} {y} r) = same x y r

  pub both_both : {C D : Type 0} {S : C → D → Type 0} {f : A → Option C} {g : B → Option D}
      → ((x : A) (y : B) → R x y → BothOrNone S (f x) (g y)) → {o : Option A} {o' : Option B} → BothOrNone R o o' →
      BothOrNone S (bind_o o f) (bind_o o' g)
  both_both found neither = neither
  both_both found (both {x} {y} r) = found x y r

  pub both_list : {C D : Type 0} {S : C → D → Type 0} {f : A → List C} {g : B → List D}
      → ((x : A) (y : B) → R x y → InAnyOrder S (f x) (g y)) → {o : Option A} {o' : Option B} → BothOrNone R o o' →
      InAnyOrder S (list_o o f) (list_o o' g)
  both_list found neither = emptied
  both_list found (both {x} {y} r) = found x y r

-- ---- the same order
module _ {A B : Type 0} {R : A → B → Type 0} where
  -- it is one of any order
  pub order_any : {xs : List A} {ys : List B} → InOrder R xs ys → InAnyOrder R xs ys
  order_any ended = emptied
  order_any (paired {ys = ys} r rest) = among [] ys r (order_any rest)

  pub order_append : {xs vs : List A} {ys ws : List B} → InOrder R xs ys → InOrder R vs ws →
      InOrder R (xs ++ vs) (ys ++ ws)
  order_append ended k = k
  order_append (paired r rest) k = paired r (order_append rest k)

  module _ (p : A → Bool) (q : B → Bool) (agree : Agree R p q) where
    -- those that pass, whether any does, the first that does and the last
    pub order_keep : {xs : List A} {ys : List B} → InOrder R xs ys → InOrder R (keep p xs) (keep q ys)
    order_keep ended = ended
    order_keep (paired {x} {xs} {y} {ys} r rest) = go (p x) (agree x y r) (order_keep rest)
      where
        go : (b : Bool) → q y ≡ b → InOrder R (keep p xs) (keep q ys) →
            InOrder R (cond b (x ∷ keep p xs) (keep p xs)) (cond (q y) (y ∷ keep q ys) (keep q ys))
        go true e kept = rw e (paired r kept)
        go false e kept = rw e kept

    pub order_some : {xs : List A} {ys : List B} → InOrder R xs ys → some? q ys ≡ some? p xs
    order_some ended = refl
    order_some (paired {x} {xs} {y} {ys} r rest) = ap₂ (λ b c. b || c) (agree x y r) (order_some rest)

    pub order_first : {xs : List A} {ys : List B} → InOrder R xs ys → BothOrNone R (first p xs) (first q ys)
    order_first ended = neither
    order_first (paired {x} {xs} {y} {ys} r rest) = go (p x) (agree x y r) (order_first rest)
      where
        go : (b : Bool) → q y ≡ b → BothOrNone R (first p xs) (first q ys) →
            BothOrNone R (cond b (some x) (first p xs)) (cond (q y) (some y) (first q ys))
        go true e found = rw e (both r)
        go false e found = rw e found

    pub order_final : {xs : List A} {ys : List B} → InOrder R xs ys → BothOrNone R (final p xs) (final q ys)
    order_final ended = neither
    order_final (paired {x} {xs} {y} {ys} r rest) = go (p x) (agree x y r) (order_final rest)
      where
        go : (b : Bool) → q y ≡ b → {o : Option A} {o' : Option B} → BothOrNone R o o' →
            BothOrNone R (or_else o (cond b (some x) none)) (or_else o' (cond (q y) (some y) none))
        go true e neither = rw e (both r)
        go false e neither = rw e neither
        go b e (both w) = both w

-- ---- any order
module _ {A B : Type 0} {R : A → B → Type 0} where
  -- those that pass
  pub any_keep : (p : A → Bool) (q : B → Bool) → Agree R p q → {xs : List A} {ys : List B} → InAnyOrder R xs ys →
      InAnyOrder R (keep p xs) (keep q ys)
  any_keep p q agree emptied = emptied
  any_keep p q agree (among {x} {xs} {y} before after r rest) =
      rw (keep_append q before (y ∷ after))
      (go (p x) (agree x y r) (rw (keep_append q before after) at (any_keep p q agree rest)))
    where
      go : (b : Bool) → q y ≡ b → InAnyOrder R (keep p xs) (keep q before ++ keep q after) →
          InAnyOrder R (cond b (x ∷ keep p xs) (keep p xs))
          (keep q before ++ cond (q y) (y ∷ keep q after) (keep q after))
      go true e kept = rw e (among (keep q before) (keep q after) r kept)
      go false e kept = rw e kept

  -- one list after another, and one put in among another
  pub any_append : {xs vs : List A} {ys ws : List B} → InAnyOrder R xs ys → InAnyOrder R vs ws →
      InAnyOrder R (xs ++ vs) (ys ++ ws)
  any_append emptied k = k
  any_append {ws = ws} (among {y = y} before after r rest) k =
      rw (append_assoc before (y ∷ after) ws)
      (among before (after ++ ws) r (rw (append_assoc before after ws) at (any_append rest k)))

  any_amid : (before after : List B) {xs vs : List A} {ys : List B} → InAnyOrder R xs ys
      → InAnyOrder R vs (before ++ after) → InAnyOrder R (xs ++ vs) (before ++ (ys ++ after))
  any_amid before after emptied k = k
  any_amid before after (among {y = y} front back r rest) k =
      rw (seam (y ∷ back))
      (among (before ++ front) (back ++ after) r (rw (seam back) at (any_amid before after rest k)))
    where
      seam : (l : List B) → before ++ ((front ++ l) ++ after) ≡ (before ++ front) ++ (l ++ after)
      seam l = rw (append_assoc front l after, append_assoc before front (l ++ after))

  -- nothing stands to nothing alone
  none_left : {ys : List B} → InAnyOrder R [] ys → ys ≡ []
  none_left emptied = refl

-- what functions make of the elements
module _ {A B C D : Type 0} {R : A → B → Type 0} {S : C → D → Type 0} where
  pub order_map : (f : A → C) (g : B → D) → ((x : A) (y : B) → R x y → S (f x) (g y)) → {xs : List A} {ys : List B}
      → InOrder R xs ys → InOrder S (map f xs) (map g ys)
  order_map f g k ended = ended
  order_map f g k (paired {x} {y = y} r rest) = paired (k x y r) (order_map f g k rest)

  pub order_gather : (f : A → List C) (g : B → List D) → ((x : A) (y : B) → R x y → InOrder S (f x) (g y))
      → {xs : List A} {ys : List B} → InOrder R xs ys → InOrder S (gather f xs) (gather g ys)
  order_gather f g k ended = ended
  order_gather f g k (paired {x} {y = y} r rest) = order_append (k x y r) (order_gather f g k rest)

  pub any_map : (f : A → C) (g : B → D) → ((x : A) (y : B) → R x y → S (f x) (g y)) → {xs : List A} {ys : List B}
      → InAnyOrder R xs ys → InAnyOrder S (map f xs) (map g ys)
  any_map f g k emptied = emptied
  any_map f g k (among {x} {y = y} before after r rest) =
      rw (map-append g before (y ∷ after))
      (among (map g before) (map g after) (k x y r) (rw (map-append g before after) at (any_map f g k rest)))

  pub any_gather : (f : A → List C) (g : B → List D) → ((x : A) (y : B) → R x y → InAnyOrder S (f x) (g y))
      → {xs : List A} {ys : List B} → InAnyOrder R xs ys → InAnyOrder S (gather f xs) (gather g ys)
  any_gather f g k emptied = emptied
  any_gather f g k (among {x} {y = y} before after r rest) =
      rw (gather_append g before (y ∷ after))
      (any_amid (gather g before) (gather g after) (k x y r)
      (rw (gather_append g before after) at (any_gather f g k rest)))

-- ---- the same collection
module _ {A : Type 0} where
  pub same_self : (xs : List A) → SameCollection xs xs
  same_self [] = emptied
  same_self (x ∷ xs) = among [] xs refl (same_self xs)

  -- what functions make of it
  pub any_each : {B C : Type 0} {S : B → C → Type 0} (f : A → List B) (g : A → List C)
      → ((x : A) → InAnyOrder S (f x) (g x)) → (xs : List A) → InAnyOrder S (gather f xs) (gather g xs)
  any_each f g k [] = emptied
  any_each f g k (x ∷ xs) = any_append (k x) (any_each f g k xs)

-- sorted it is the same list
pub any_sort : {xs ys : List ℕ} → SameCollection xs ys → sort ys ≡ sort xs
any_sort emptied = refl
any_sort (among {y = y} before after e rest) = sort_middle before y after ∙ ap₂ insert (sym e) (any_sort rest)

-- ---- at most one passes
abbrev pub AtMostOne : {A : Type 0} → List A → Type 0
AtMostOne [] = Unit {0}
AtMostOne (x ∷ []) = Unit {0}
AtMostOne (x ∷ y ∷ zs) = ⊥

-- the first of a list
abbrev first_of : {A : Type 0} → List A → Option A
first_of [] = none
first_of (x ∷ xs) = some x

module _ {A : Type 0} (p : A → Bool) where
  -- where any two that pass are alike, and no two elements are
  pub distinct_one : (q : A → A → Bool) → ((a b : A) → p a ≡ true → p b ≡ true → q a b ≡ true) → (xs : List A)
      → distinct q xs ≡ true → AtMostOne (keep p xs)
  distinct_one q alike xs h = rw (keep_first p q alike xs h) (go (first p xs))
    where
      go : (o : Option A) → AtMostOne (list_o o (λ x. x ∷ []))
      go none = tt
      go (some x) = tt

  -- a search finds the first that passes
  first_kept : (xs : List A) → first p xs ≡ first_of (keep p xs)
  first_kept [] = refl
  first_kept (x ∷ xs) = go (p x) (first_kept xs)
    where
      go : (b : Bool) → first p xs ≡ first_of (keep p xs) →
          cond b (some x) (first p xs) ≡ first_of (cond b (x ∷ keep p xs) (keep p xs))
      go true later = refl
      go false later = later

  -- and changing it is changing all that pass
  abbrev changed : (A → A) → A → A
  changed f x = cond (p x) (f x) x

  none_changed : (f : A → A) (xs : List A) → keep p xs ≡ [] → map (changed f) xs ≡ xs
  none_changed f [] None-passes = refl
  none_changed f (x ∷ xs) None-passes = go (p x) None-passes (none_changed f xs)
    where
      go : (b : Bool) → cond b (x ∷ keep p xs) (keep p xs) ≡ [] → (keep p xs ≡ [] → map (changed f) xs ≡ xs) →
          cond b (f x) x ∷ map (changed f) xs ≡ x ∷ xs
      go true some-passes later = absurd (nil≢cons (sym some-passes))
      go false none-later later = rw (later none-later)

  one_amend : (f : A → A) (xs : List A) → AtMostOne (keep p xs) → amend p f xs ≡ map (changed f) xs
  one_amend f [] one = refl
  one_amend f (x ∷ xs) one = go (p x) one (one_amend f xs)
    where
      alone : (ys : List A) → AtMostOne (x ∷ ys) → ys ≡ []
      alone [] one = refl
      alone (y ∷ ys) one = absurd one

      go : (b : Bool) → AtMostOne (cond b (x ∷ keep p xs) (keep p xs))
          → (AtMostOne (keep p xs) → amend p f xs ≡ map (changed f) xs) →
          cond b (f x ∷ xs) (x ∷ amend p f xs) ≡ cond b (f x) x ∷ map (changed f) xs
      go true one later = rw (none_changed f xs (alone (keep p xs) one))
      go false one later = rw (later one)

-- nothing in two lists joined: nothing in either
joined_empty : {A : Type 0} (xs ys : List A) → xs ++ ys ≡ [] → (xs ≡ []) × (ys ≡ [])
joined_empty [] ys h = (refl, h)
joined_empty (x ∷ xs) ys h = absurd (nil≢cons (sym h))

module _ {A B : Type 0} {R : A → B → Type 0} where
  any_one : {xs : List A} {ys : List B} → InAnyOrder R xs ys → AtMostOne xs → AtMostOne ys
  any_one emptied one = tt
  any_one (among {x} {xs} {y} before after r rest) one = go xs rest one
    where
      go : (vs : List A) → InAnyOrder R vs (before ++ after) → AtMostOne (x ∷ vs) → AtMostOne (before ++ (y ∷ after))
      go [] left one =
          let nothing = joined_empty before after (none_left left) in
          rw (nothing.0, nothing.1) tt
      go (v ∷ vs) left one = absurd one

  any_first_of : {xs : List A} {ys : List B} → InAnyOrder R xs ys → AtMostOne xs
      → BothOrNone R (first_of xs) (first_of ys)
  any_first_of emptied one = neither
  any_first_of (among {x} {xs} {y} before after r rest) one = go xs rest one
    where
      go : (vs : List A) → InAnyOrder R vs (before ++ after) → AtMostOne (x ∷ vs)
          → BothOrNone R (some x) (first_of (before ++ (y ∷ after)))
      go [] left one = rw (joined_empty before after (none_left left)).0 (both r)
      go (v ∷ vs) left one = absurd one

  module _ (p : A → Bool) (q : B → Bool) (agree : Agree R p q) {xs : List A} {ys : List B} (h : InAnyOrder R xs ys)
      (one : AtMostOne (keep p xs)) where
    -- the one that a search finds
    pub any_first : BothOrNone R (first p xs) (first q ys)
    any_first = rw (first_kept p xs, first_kept q ys) (any_first_of (any_keep p q agree h) one)

    -- the one that is changed
    pub any_amend : (f : A → A) (g : B → B) → ((x : A) (y : B) → R x y → R (f x) (g y)) →
        InAnyOrder R (amend p f xs) (amend q g ys)
    any_amend f g k =
        rw (one_amend p f xs one, one_amend q g ys (any_one (any_keep p q agree h) one))
        (any_map (changed p f) (changed q g) both_changed h)
      where
        both_changed : (x : A) (y : B) → R x y → R (changed p f x) (changed q g y)
        both_changed x y r = rw (agree x y r) (go (p x))
          where
            go : (b : Bool) → R (cond b (f x) x) (cond b (g y) y)
            go true = k x y r
            go false = r

-- ---- by a number that no two of a list have
module _ {A : Type 0} (key : A → ℕ) where
  abbrev pub KeysOnce : List A → Type 0
  KeysOnce xs = distinct (λ a b. eqb (key a) (key b)) xs ≡ true

  one_key : (n : ℕ) (xs : List A) → KeysOnce xs → AtMostOne (keep (λ x. eqb (key x) n) xs)
  one_key n xs once = distinct_one (λ x. eqb (key x) n) (λ a b. eqb (key a) (key b)) alike xs once
    where
      alike : (a b : A) → eqb (key a) n ≡ true → eqb (key b) n ≡ true → eqb (key a) (key b) ≡ true
      alike a b p q = ap (eqb (key a)) (eqb-true (key b) n q) ∙ p

  -- a search for the number of a row finds that row
  first_row_lem : (xs : List A) (i : ℕ) (z : A) → i < length xs → KeysOnce xs →
      first (λ x. eqb (key x) (key (get_or xs i z))) xs ≡ some (get_or xs i z)
  first_row_lem [] i z row once = absurd (not-suc-le-zero row)
  first_row_lem (x ∷ xs) zero z row once = rw (eq-eqb (key x) (key x) refl)
  first_row_lem (x ∷ xs) (suc i) z row once =
      let alike : A → A → Bool = λ a b. eqb (key a) (key b) in
      ap (λ b. cond b (some x) (first (λ y. eqb (key y) (key (get_or xs i z))) xs))
      (distinct_later alike x xs i z once (le_of_suc-le-suc row))
      ∙ first_row_lem xs i z (le_of_suc-le-suc row) (and_right (not (some? (alike x) xs)) (distinct alike xs) once)

module _ {A B : Type 0} {R : A → B → Type 0} (key : A → ℕ) (key' : B → ℕ)
    (kept : (x : A) (y : B) → R x y → key' y ≡ key x) {xs : List A} {ys : List B} (h : InAnyOrder R xs ys)
    (once : KeysOnce key xs) where
  pub any_key : (n : ℕ) → BothOrNone R (first (λ x. eqb (key x) n) xs) (first (λ y. eqb (key' y) n) ys)
  any_key n =
      any_first (λ x. eqb (key x) n) (λ y. eqb (key' y) n) (λ x y r. ap (λ k. eqb k n) (kept x y r)) h
      (one_key key n xs once)

  -- rows of one number stand to one another
  pub any_row : (once' : KeysOnce key' ys) (i j : ℕ) (z : A) (z' : B) → i < length xs → j < length ys
      → key' (get_or ys j z') ≡ key (get_or xs i z) → R (get_or xs i z) (get_or ys j z')
  any_row once' i j z z' row row' e =
      go (rw (first_row_lem key xs i z row once, there) at (any_key (key (get_or xs i z))))
    where
      there : first (λ y. eqb (key' y) (key (get_or xs i z))) ys ≡ some (get_or ys j z')
      there = ap (λ n. first (λ y. eqb (key' y) n) ys) (sym e) ∙ first_row_lem key' ys j z' row' once'

      go : BothOrNone R (some (get_or xs i z)) (some (get_or ys j z')) → R (get_or xs i z) (get_or ys j z')
      go (both r) = r
