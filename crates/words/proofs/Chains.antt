-- The laws of hash chains, over any hash and any test of a row against a key.
use Prim.Native.Nat.{ℕ, zero, suc, ◌+◌, ◌-◌, ◌<◌, ◌≤◌}
use mathlib.Core.Path.{◌≡◌, refl, sym, ap, ◌∙◌, subst}
use mathlib.Core.Logic.{⊎_elim}
use mathlib.Core.List.{List}
use mathlib.Core.Bool.{Bool, true, false, ◌||◌}
use native.Mathlib.Nat.{le_refl, le_trans, le_step, not-suc-le-zero, le_of_suc-le-suc, eq-or-lt_of_le, le_of_lt}
use native.Mathlib.Numerals.{add-one}
use native.Mathlib.Omega.{arith}
use lib.ListN.{length, get_or, set, replicate, length-set, length-replicate, get_or-replicate}
use lib.Seq.{get_or-set_same, get_or-set_other}
use lib.Dec.{eqb}
use borrow.Author.Tests.{eq-eqb, eqb-true, eqb-false}
use Rattle.words.specs.Chain.{Chained, Empty, within}
use Rattle.words.specs.Rows.{any, last_of}
use Rattle.words.proofs.Laws.{or_left, or_none, or_right}

-- new arrays hold no chain
pub fresh : Empty (replicate 16384 0) (replicate 16384 0)
fresh = record {
  buckets = length-replicate {A = ℕ} 16384 0;
  rows = length-replicate {A = ℕ} 16384 0;
  clear = λ b h. get_or-replicate {A = ℕ} 16384 b 0 0 h;
}

-- ---- the last row of which p holds
pub last_none : (p : ℕ → Bool) → last_of 0 p ≡ 0
unfolding last_of
last_none p = refl

pub last_hit : (r : ℕ) (p : ℕ → Bool) → p r ≡ true → last_of (suc r) p ≡ suc r
unfolding last_of
last_hit r p e = rw e

pub last_miss : (r : ℕ) (p : ℕ → Bool) → p r ≡ false → last_of (suc r) p ≡ last_of r p
unfolding last_of
last_miss r p e = rw e

-- by cases on p at the last row
by_last : (Q : ℕ → Type 0) (n : ℕ) (p : ℕ → Bool) → (p n ≡ true → Q (suc n)) → (p n ≡ false → Q (last_of n p))
    → Q (last_of (suc n) p)
by_last Q n p yes-case no-case = go (p n) refl
  where
    go : (t : Bool) → p n ≡ t → Q (last_of (suc n) p)
    go true e = subst Q (sym (last_hit n p e)) (yes-case e)
    go false e = subst Q (sym (last_miss n p e)) (no-case e)

pub last_le : (n : ℕ) (p : ℕ → Bool) → last_of n p ≤ n
last_le zero p = rw last_none (le_refl 0)
last_le (suc n) p =
    let ih = last_le n p in by_last (λ (k : ℕ). k ≤ suc n) n p (λ e. le_refl (suc n)) (λ e. le_step ih)

pub found_le : (n : ℕ) (p : ℕ → Bool) {found : ℕ} → found ≡ last_of n p → found ≤ n
found_le n p is = rw is (last_le n p)

-- the row that is found has p
pub last_has : (n r : ℕ) (p : ℕ → Bool) → last_of n p ≡ suc r → p r ≡ true
last_has zero r p e = absurd (omega (arith, last_none p))
last_has (suc n) r p e =
    let ih : last_of n p ≡ suc r → p r ≡ true = λ q. last_has n r p q in
    by_last (λ (k : ℕ). k ≡ suc r → p r ≡ true) n p
    (λ t q. let z : n ≡ r = omega arith in subst (λ (k : ℕ). p k ≡ true) z t) (λ t q. ih q) e

-- two tests that agree below n
pub last_same : (n : ℕ) (p q : ℕ → Bool) → ((r : ℕ) → r < n → p r ≡ q r) → last_of n p ≡ last_of n q
unfolding last_of
last_same zero p q h = refl
last_same (suc n) p q h = rw (h n (le_refl (suc n)), last_same n p q (λ r lt. h r (le_step lt)))

-- ---- THE law: where p holds only in the bucket B, the search for p goes by the rows of B alone
pub chain_skip : (n : ℕ) (B p : ℕ → Bool) → ((q : ℕ) → q < n → p q ≡ true → B q ≡ true)
    → last_of (last_of n B) p ≡ last_of n p
chain_skip zero B p h = ap (λ (k : ℕ). last_of k p) (last_none B)
chain_skip (suc n) B p h =
    let ih = chain_skip n B p (λ q lt e. h q (le_step lt) e) in
    by_last (λ (k : ℕ). last_of k p ≡ last_of (suc n) p) n B
    (λ e. refl)
    (λ e. ih ∙ sym (last_miss n p (off (p n) refl e)))
  where
    off : (t : Bool) → p n ≡ t → B n ≡ false → p n ≡ false
    off true e f = e ∙ sym (h n (le_refl (suc n)) e) ∙ f
    off false e f = e

-- ---- chains
module _ (hash : ℕ → ℕ) where
  pub chained_none : {heads next : List ℕ} → Empty heads next → Chained hash 0 heads next
  chained_none empty = record {
    head = λ b h. empty.clear b h ∙ sym (last_none (within hash b));
    link = λ r h. absurd (not-suc-le-zero h);
  }

  -- a row is linked in front of its bucket's chain
  pub chained_more : (n : ℕ) (heads next : List ℕ) → Chained hash n heads next → hash n < length heads
      → n < length next
      → Chained hash (n + 1) (set heads (hash n) (n + 1)) (set next n (get_or heads (hash n) 0))
  chained_more n heads next c hh hn = record { head = heads_more; link = next_more }
    where
      heads_case : (b : ℕ) → b < length heads → (t : Bool) → eqb (hash n) b ≡ t
          → get_or (set heads (hash n) (n + 1)) b 0 ≡ last_of (n + 1) (within hash b)
      heads_case b h true e =
          let q : b ≡ hash n = sym (eqb-true (hash n) b e) in
          ap (λ (k : ℕ). get_or (set heads (hash n) (n + 1)) k 0) q
          ∙ get_or-set_same heads (hash n) (n + 1) 0 hh
          ∙ rw (add-one, last_hit n (within hash b) e)
      heads_case b h false e =
          get_or-set_other heads (hash n) b (n + 1) 0 (λ q. eqb-false (hash n) b e (sym q))
          ∙ c.head b h
          ∙ rw (add-one, last_miss n (within hash b) e)

      heads_more : (b : ℕ) → b < length (set heads (hash n) (n + 1))
          → get_or (set heads (hash n) (n + 1)) b 0 ≡ last_of (n + 1) (within hash b)
      heads_more b h = heads_case b (rw length-set at h) (eqb (hash n) b) refl

      next_more : (r : ℕ) → r < n + 1
          → get_or (set next n (get_or heads (hash n) 0)) r 0 ≡ last_of r (within hash (hash r))
      next_more r h =
          ⊎_elim
          (λ q. rw q (get_or-set_same next n (get_or heads (hash n) 0) 0 hn ∙ c.head (hash n) hh))
          (λ lt. get_or-set_other next n r (get_or heads (hash n) 0) 0 (λ q. omega arith) ∙ c.link r lt)
          (eq-or-lt_of_le (le_of_suc-le-suc (rw add-one at h)))

  module _ (n : ℕ) (heads next : List ℕ) (c : Chained hash n heads next) (p : ℕ → Bool) (b : ℕ)
      (only : (q : ℕ) → q < n → p q ≡ true → hash q ≡ b) where
    -- the search begins at the bucket's head
    pub search_begin : b < length heads → last_of (get_or heads b 0) p ≡ last_of n p
    search_begin h = rw (c.head b h) (chain_skip n (within hash b) p (λ q lt e. eq-eqb (hash q) b (only q lt e)))

    -- a row of the bucket that isn't it: the search goes on at the row's link
    pub search_on : (r : ℕ) → r < n → hash r ≡ b → p r ≡ false → last_of (get_or next r 0) p ≡ last_of (suc r) p
    search_on r lt hr e =
        rw (c.link r lt, last_miss r p e)
        (chain_skip r (within hash (hash r)) p
        (λ q l f. eq-eqb (hash q) (hash r) (only q (le_trans l (le_of_lt lt)) f ∙ sym hr)))

    -- what a link leads to lies below, in the same bucket
    pub link_le : (r : ℕ) → r < n → get_or next r 0 ≤ r
    link_le r lt = rw (c.link r lt) (last_le r (within hash (hash r)))

    pub link_in : (r s : ℕ) → r < n → get_or next r 0 ≡ suc s → hash s ≡ hash r
    link_in r s lt e = eqb-true (hash s) (hash r) (last_has r s (within hash (hash r)) (sym (c.link r lt) ∙ e))

    pub head_le : b < length heads → get_or heads b 0 ≤ n
    head_le h = rw (c.head b h) (last_le n (within hash b))

    pub head_in : (s : ℕ) → b < length heads → get_or heads b 0 ≡ suc s → hash s ≡ b
    head_in s h e = eqb-true (hash s) b (last_has n s (within hash b) (sym (c.head b h) ∙ e))

-- chains say nothing of rows that are not linked
pub chained_same : (n : ℕ) (hash other : ℕ → ℕ) {heads next : List ℕ} → ((r : ℕ) → r < n → hash r ≡ other r)
    → Chained hash n heads next → Chained other n heads next
chained_same n hash other same c = record {
  head = λ b h. c.head b h ∙ last_same n (within hash b) (within other b) (λ q lt. ap (λ (k : ℕ). eqb k b) (same q lt));
  link = λ r h. c.link r h
      ∙ last_same r (within hash (hash r)) (within other (other r))
      (λ q lt. rw (same q (le_trans lt (le_of_lt h)), same r h));
}

-- ---- the search's answer and whether there is one
pub last_any : (n : ℕ) (p : ℕ → Bool) → last_of n p ≡ 0 → any n p ≡ false
unfolding any
last_any zero p e = refl
last_any (suc n) p e =
    let ih : last_of n p ≡ 0 → any n p ≡ false = λ q. last_any n p q in
    by_last (λ (k : ℕ). k ≡ 0 → (any n p || p n) ≡ false) n p (λ t q. absurd (omega arith))
    (λ t q. or_none (any n p) (p n) (ih q) t) e

pub any_last : (n : ℕ) (p : ℕ → Bool) → (last_of n p ≡ 0 → ⊥) → any n p ≡ true
unfolding any
any_last zero p e = absurd (e (last_none p))
any_last (suc n) p e =
    let ih : (last_of n p ≡ 0 → ⊥) → any n p ≡ true = λ q. any_last n p q in
    by_last (λ (k : ℕ). (k ≡ 0 → ⊥) → (any n p || p n) ≡ true) n p (λ t q. or_right (any n p) (p n) t)
    (λ t q. or_left (any n p) (p n) (ih q)) e

-- ---- a lookup's loop, once for every kind of key: the rows below n, the chains, the test p of a row against
-- the key, and the key's bucket b
pub record Seeking (hash : ℕ → ℕ) (p : ℕ → Bool) (b n at : ℕ) : Type 0 where
  pub below : at ≤ n
  pub rest : last_of at p ≡ last_of n p
  pub inside : (r : ℕ) → at ≡ suc r → hash r ≡ b

module _ (hash : ℕ → ℕ) (p : ℕ → Bool) (b n : ℕ) (heads next : List ℕ) (c : Chained hash n heads next)
    (only : (q : ℕ) → p q ≡ true → hash q ≡ b) where
  pub seek_begin : b < length heads → Seeking hash p b n (get_or heads b 0)
  seek_begin h = record {
    below = head_le hash n heads next c p b (λ q lt e. only q e) h;
    rest = search_begin hash n heads next c p b (λ q lt e. only q e) h;
    inside = λ r e. head_in hash n heads next c p b (λ q lt f. only q f) r h e;
  }

  pub seek_less : (at : ℕ) → Seeking hash p b n at → (at ≡ 0 → ⊥) → get_or next (at - 1) 0 < at
  seek_less at s nz =
      let le = s.below in
      let l = link_le hash n heads next c p b (λ q lt e. only q e) (at - 1) (omega arith) in
      omega arith

  pub seek_on : (at : ℕ) → Seeking hash p b n at → (at ≡ 0 → ⊥) → p (at - 1) ≡ false
      → Seeking hash p b n (get_or next (at - 1) 0)
  seek_on at s nz miss =
      let le = s.below in
      let lt : at - 1 < n = omega arith in
      let e : suc (at - 1) ≡ at = omega arith in
      let hr : hash (at - 1) ≡ b = s.inside (at - 1) (sym e) in
      let less = seek_less at s nz in
      record {
        below = omega arith;
        rest = search_on hash n heads next c p b (λ q l f. only q f) (at - 1) lt hr miss
            ∙ ap (λ (k : ℕ). last_of k p) e
            ∙ s.rest;
        inside = λ r q. link_in hash n heads next c p b (λ q l f. only q f) (at - 1) r lt q ∙ hr;
      }

  pub seek_hit : (at : ℕ) → Seeking hash p b n at → (at ≡ 0 → ⊥) → p (at - 1) ≡ true → at ≡ last_of n p
  seek_hit at s nz found =
      let e : suc (at - 1) ≡ at = omega arith in
      sym e ∙ sym (last_hit (at - 1) p found) ∙ ap (λ (k : ℕ). last_of k p) e ∙ s.rest

  pub seek_none : (at : ℕ) → Seeking hash p b n at → at ≡ 0 → 0 ≡ last_of n p
  seek_none at s z = sym (last_none p) ∙ ap (λ (k : ℕ). last_of k p) (sym z) ∙ s.rest

-- a link loop's turn: the chains with row i put in front of its bucket
pub link_turn : (hash : ℕ → ℕ) (i : ℕ) (heads next : List ℕ) {new_heads new_next : List ℕ} {h : ℕ}
    → Chained hash i heads next → h ≡ hash i → h < length heads → i < length next
    → new_heads ≡ set heads h (i + 1) → new_next ≡ set next i (get_or heads h 0)
    → Chained hash (i + 1) new_heads new_next
link_turn hash i heads next chains is inside room heads-are next_is =
    rw (heads-are, next_is, is) (chained_more hash i heads next chains (rw is at inside) room)
