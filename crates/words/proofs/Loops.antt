-- The loops over chains, once for every kind of key: a lookup walks one bucket's chain, and a link loop puts each row
-- in front of its bucket's chain.
use Prim.Native.Nat.{ℕ, suc, ◌+◌, ◌-◌, ◌<◌, ◌≤◌}
use mathlib.Core.Path.{◌≡◌, refl, sym, ap, ◌∙◌}
use mathlib.Core.List.{List}
use mathlib.Core.Bool.{Bool, true, false, not, ◌||◌, cond}
use mathlib.Core.Logic.{⊎_elim}
use native.Mathlib.Nat.{eq-or-lt_of_le, le_of_suc-le-suc, not-suc-le-zero}
use native.Mathlib.Numerals.{add-one, unary_clauses}
use native.Mathlib.Omega.{arith}
use lib.ListN.{length, get_or, set, length-set}
use lib.Dec.{eqb}
use borrow.Author.Tests.{eq-eqb, ne_eqb}
use Rattle.std.specs.Prelude.{Option, Some, None}
use Rattle.std.specs.Option.{is_some}
use Rattle.words.specs.Chain.{Chained, Decides, Empty, KeyIn, Likens, Puts, stored}
use Rattle.words.specs.Rows.{any, last_of}
use Rattle.words.proofs.Chains.{Seeking, chained_none, chained_same, link_turn, seek_begin, seek_hit}
use Rattle.words.proofs.Chains.{seek_none, seek_on}
use Rattle.words.proofs.KeyLaws.{met_more}
use Rattle.words.proofs.Laws.{any_none}

-- ---- what a lookup's loop keeps: the chains, that a row with the key lies in the key's bucket, and how far it is
pub record Lookup (hash : ℕ → ℕ) (p : ℕ → Bool) (b n : ℕ) (heads next : List ℕ) (at : ℕ) : Type 0 where
  pub chains : Chained hash n heads next
  pub only : (q : ℕ) → p q ≡ true → hash q ≡ b
  pub seeking : Seeking hash p b n at

module _ {hash : ℕ → ℕ} {p : ℕ → Bool} {b n : ℕ} {heads next : List ℕ} where
  pub look_begin : {bucket head : ℕ} → Chained hash n heads next → ((q : ℕ) → p q ≡ true → hash q ≡ b)
      → bucket ≡ b → bucket < length heads → head ≡ get_or heads bucket 0 → Lookup hash p b n heads next head
  look_begin chains only is inside read = record {
    chains = chains;
    only = only;
    seeking = rw (read, is) (seek_begin hash p b n heads next chains only (rw is at inside));
  }

  module _ {at : ℕ} (look : Lookup hash p b n heads next at) where
    -- nowhere to go on: no row has the key
    pub look_none : at ≡ 0 → 0 ≡ last_of n p
    look_none = seek_none hash p b n heads next look.chains look.only at look.seeking

  module _ {r : ℕ} (look : Lookup hash p b n heads next (suc r)) where
    -- row r has the key: it is the last one
    pub row_hit : p r ≡ true → suc r ≡ last_of n p
    row_hit hit =
        seek_hit hash p b n heads next look.chains look.only (suc r) look.seeking (λ e. omega arith)
        (simp unary_clauses hit)

    -- it has not: on to the row before it in its bucket
    pub row_on : {after : ℕ} → after ≡ get_or next r 0 → p r ≡ false → Lookup hash p b n heads next after
    row_on {after} read miss = record {
      chains = look.chains;
      only = look.only;
      seeking = let on : after ≡ get_or next (suc r - 1) 0 = simp unary_clauses read in
          rw on (seek_on hash p b n heads next look.chains look.only (suc r) look.seeking (λ e. omega arith)
          (simp unary_clauses miss));
    }

-- ---- `link_rows` before turn i: `puts` is what its function of the buckets may answer, `likes` what its test may
pub record Linked (puts : ℕ → ℕ → Type 0) (likes : ℕ → ℕ → Bool → Type 0) (n : ℕ) (heads next : List ℕ) (twice : Bool)
    (i : ℕ) : Type 0 where
  pub buckets : length heads ≡ 16384
  pub rows : length next ≡ 16384
  -- the buckets that were answered
  pub hash : ℕ → ℕ
  pub answered : (r : ℕ) → r < i → puts r (hash r)
  pub chains : Chained hash i heads next
  pub alike : (hash : ℕ → ℕ) (same : ℕ → ℕ → Bool) → Puts puts hash n → Likens likes same n
      → ((r : ℕ) → r < n → KeyIn hash (same r) (hash r)) → twice ≡ any i (λ r. any r (same r))

-- row r in bucket b, and every other row where it is
abbrev with_row : (ℕ → ℕ) → ℕ → ℕ → ℕ → ℕ
with_row hash r b q = cond (eqb q r) b (hash q)

with_itself : (hash : ℕ → ℕ) (r b : ℕ) → with_row hash r b r ≡ b
with_itself hash r b = rw (eq-eqb r r refl)

with_others : (hash : ℕ → ℕ) (r b q : ℕ) → q < r → with_row hash r b q ≡ hash q
with_others hash r b q less = rw (ne_eqb q r (λ e. omega arith))

stored_some : (f : Option ℕ) → is_some f ≡ not (eqb (stored f) 0)
stored_some None = refl
stored_some (Some r) = rw (ne_eqb (suc r) 0 (λ e. omega arith))

module _ {puts : ℕ → ℕ → Type 0} {likes : ℕ → ℕ → Bool → Type 0} {n : ℕ} where
  pub linked_none : {heads next : List ℕ} → Empty heads next → Linked puts likes n heads next false 0
  linked_none empty = record {
    buckets = empty.buckets;
    rows = empty.rows;
    hash = λ r. 0;
    answered = λ r less. absurd (not-suc-le-zero less);
    chains = chained_none (λ r. 0) empty;
    alike = λ hash same puts likens key_in. sym (any_none (λ r. any r (same r)));
  }

  module _ {heads next : List ℕ} {twice : Bool} {i : ℕ} (linked : Linked puts likes n heads next twice i) where
    -- the chains, in the buckets that the function stands for
    chains_of : {hash : ℕ → ℕ} → i ≤ n → Puts puts hash n → Chained hash i heads next
    chains_of {hash} below put =
        chained_same i linked.hash hash
        (λ r less. put r (linked.hash r) (omega arith) (linked.answered r less)) linked.chains

    -- a turn
    pub linked_more : {b : ℕ} (found : Option ℕ) {new_twice : Bool} {new_heads new_next : List ℕ} → i < n
        → n ≤ 16384 → puts i b → b < 16384
        → ((hash : ℕ → ℕ) (p : ℕ → Bool) → Chained hash i heads next → KeyIn hash p b
        → Decides (λ q t. likes q i t) p i → stored found ≡ last_of i p)
        → new_twice ≡ (twice || is_some found) → new_heads ≡ set heads b (i + 1)
        → new_next ≡ set next i (get_or heads b 0) → Linked puts likes n new_heads new_next new_twice (i + 1)
    linked_more {b} found less few answers inside last met heads-are next_is = record {
      buckets = ap length heads-are ∙ simp length-set linked.buckets;
      rows = ap length next_is ∙ simp length-set linked.rows;
      hash = with_row linked.hash i b;
      answered = λ r below.
          ⊎_elim
          (λ (e : r ≡ i). rw (e, with_itself linked.hash i b) answers)
          (λ (lt : r < i). rw (with_others linked.hash i b r lt) (linked.answered r lt))
          (eq-or-lt_of_le (le_of_suc-le-suc (rw add-one at below)));
      chains = link_turn (with_row linked.hash i b) i heads next
          (chained_same i linked.hash (with_row linked.hash i b) (λ r lt. sym (with_others linked.hash i b r lt))
          linked.chains)
          (sym (with_itself linked.hash i b)) (omega (arith, linked.buckets)) (omega (arith, linked.rows))
          heads-are next_is;
      alike = λ hash same put likens key_in.
          let is : b ≡ hash i = put i b less answers in
          let found_is = last hash (same i) (chains_of (omega arith) put) (λ q has. key_in i less q has ∙ sym is)
          (λ q t lt answer. likens q i t lt less answer) in
          met_more i (λ r. any r (same r)) (same i) (met ∙ ap (λ t. twice || t) (stored_some found))
          (linked.alike hash same put likens key_in) found_is refl;
    }

    -- the end
    pub all_linked_rows : {hash : ℕ → ℕ} {same : ℕ → ℕ → Bool} → i ≡ n → Puts puts hash n → Likens likes same n
        → ((r : ℕ) → r < n → KeyIn hash (same r) (hash r))
        → (twice ≡ any n (λ r. any r (same r))) × Chained hash n heads next
    all_linked_rows {hash} {same} end put likens key_in =
        (rw end at (linked.alike hash same put likens key_in), rw end at (chains_of (omega arith) put))
