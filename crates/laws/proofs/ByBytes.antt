-- Being the same name, by bytes, is an equivalence; so a search of the registry finds the one lane that the
-- definition keeps.
use mathlib.Core.Path.{◌≡◌, refl, sym, ◌∙◌, ap, ap₂}
use mathlib.Core.Bool.{Bool, true, false, not, ◌&&◌, ◌||◌, cond, true≢false, false≢true}
use mathlib.Core.Option.{some}
use mathlib.Core.List.{List, [], ◌∷◌}
use Prim.Native.Nat.{ℕ}
use lib.Dec.{eqb}
use borrow.Author.Tests.{eqb-true, eq-eqb, not-true}
use Rattle.model.specs.Lists.{distinct, first, keep, list_o, some?}
use Rattle.model.specs.Records.{Lane, Span}
use Rattle.model.specs.Rules.{same_key}
use Rattle.model.specs.Succession.{stands_at}
use Rattle.model.specs.Text.{bytes_of, equal_bytes, same_in}
use Rattle.laws.proofs.ListTests.{and_both, and_left, and_right}
use Rattle.laws.proofs.Valid.{Alike}

-- being the same name, by bytes, is an equivalence
pub equal_bytes_lem : (xs ys : List ℕ) → equal_bytes xs ys ≡ true → xs ≡ ys
equal_bytes_lem [] [] h = refl
equal_bytes_lem [] (y ∷ ys) h = absurd (false≢true h)
equal_bytes_lem (x ∷ xs) [] h = absurd (false≢true h)
equal_bytes_lem (x ∷ xs) (y ∷ ys) h =
    ap₂ {C = List ℕ} (λ a b. a ∷ b) (eqb-true x y (and_left (eqb x y) (equal_bytes xs ys) h))
    (equal_bytes_lem xs ys (and_right (eqb x y) (equal_bytes xs ys) h))

pub bytes_equal : (xs : List ℕ) → equal_bytes xs xs ≡ true
bytes_equal [] = refl
bytes_equal (x ∷ xs) = and_both (eqb x x) (equal_bytes xs xs) (eq-eqb x x refl) (bytes_equal xs)

pub alike_in : (text : List ℕ) → Alike (same_in text)
unfolding same_in
alike_in text = record {
  same_refl = λ a. bytes_equal (bytes_of text a);
  same_sym = λ a b h. ap (λ x. equal_bytes x (bytes_of text a))
      (sym (equal_bytes_lem (bytes_of text a) (bytes_of text b) h))
      ∙ bytes_equal (bytes_of text a);
  same_trans = λ a b c h k. ap (λ x. equal_bytes x (bytes_of text c))
      (equal_bytes_lem (bytes_of text a) (bytes_of text b) h)
      ∙ k;
}

-- what is kept is what a search finds first, where any two that pass are alike and no two are
module _ {A : Type 0} (p : A → Bool) (q : A → A → Bool)
    (alike : (a b : A) → p a ≡ true → p b ≡ true → q a b ≡ true) where
  keep_none : (a : A) (xs : List A) → p a ≡ true → some? (q a) xs ≡ false → keep p xs ≡ []
  keep_none a [] h k = refl
  keep_none a (x ∷ xs) h k = go (p x) refl (q a x) refl k (keep_none a xs h)
    where
      go : (b : Bool) → p x ≡ b → (c : Bool) → q a x ≡ c → c || some? (q a) xs ≡ false
          → (some? (q a) xs ≡ false → keep p xs ≡ []) → cond b (x ∷ keep p xs) (keep p xs) ≡ []
      go b w true v k ih = absurd (true≢false k)
      go true w false v k ih = absurd (true≢false (sym (alike a x h w) ∙ v))
      go false w false v k ih = ih k

  pub keep_first : (xs : List A) → distinct q xs ≡ true → keep p xs ≡ list_o (first p xs) (λ x. x ∷ [])
  keep_first [] h = refl
  keep_first (x ∷ xs) h = go (p x) refl (keep_first xs (and_right (not (some? (q x) xs)) (distinct q xs) h))
    where
      go : (b : Bool) → p x ≡ b → keep p xs ≡ list_o (first p xs) (λ x. x ∷ [])
          → cond b (x ∷ keep p xs) (keep p xs) ≡ list_o (cond b (some x) (first p xs)) (λ x. x ∷ [])
      go true w ih =
          ap {B = List A} (λ l. x ∷ l)
          (keep_none x xs w (not-true (some? (q x) xs) (and_left (not (some? (q x) xs)) (distinct q xs) h)))
      go false w ih = ih

-- the registry holds at most one lane for a road, section and number
pub one_lane : (same : Span → Span → Bool) → Alike same → (n : Span) (s k : ℕ) (ls : List Lane)
    → distinct (same_key same) ls ≡ true →
    keep (stands_at same n s k) ls ≡ list_o (first (stands_at same n s k) ls) (λ l. l ∷ [])
one_lane same A n s k ls h = keep_first (stands_at same n s k) (same_key same) alike ls h
  where
    alike : (a b : Lane) → stands_at same n s k a ≡ true → stands_at same n s k b ≡ true → same_key same a b ≡ true
    alike a b p q =
        unfold stands_at same_key in and_both (same a.road b.road && eqb a.section b.section)
        (eqb a.number b.number)
        (and_both (same a.road b.road) (eqb a.section b.section)
        (A.same_trans a.road n b.road (one a p) (A.same_sym b.road n (one b q)))
        (eq-eqb a.section b.section
        (eqb-true a.section s (two a p) ∙ sym (eqb-true b.section s (two b q)))))
        (eq-eqb a.number b.number
        (eqb-true a.number k (three a p) ∙ sym (eqb-true b.number k (three b q))))
      where
        one : (a : Lane) → stands_at same n s k a ≡ true → same a.road n ≡ true
        one a p =
            unfold stands_at in and_left (same a.road n) (eqb a.section s)
            (and_left (same a.road n && eqb a.section s) (eqb a.number k) p)

        two : (a : Lane) → stands_at same n s k a ≡ true → eqb a.section s ≡ true
        two a p =
            unfold stands_at in and_right (same a.road n) (eqb a.section s)
            (and_left (same a.road n && eqb a.section s) (eqb a.number k) p)

        three : (a : Lane) → stands_at same n s k a ≡ true → eqb a.number k ≡ true
        three a p = unfold stands_at in and_right (same a.road n && eqb a.section s) (eqb a.number k) p
