-- Where connections lie, and the chains that hold them.
use Prim.Native.Nat.{ℕ, zero, suc, ◌+◌, ◌-◌, ◌*◌, ◌/◌, ◌<◌, ◌≤◌}
use mathlib.Core.Path.{◌≡◌, refl, sym, ap, ap₂, ◌∙◌, subst}
use mathlib.Core.Logic.{⊎_elim}
use mathlib.Core.Bool.{Bool, true, false}
use mathlib.Core.List.{List}
use native.Mathlib.Nat.{le_refl, le_step, not-suc-le-zero, le_of_suc-le-suc, eq-or-lt_of_le}
use native.Mathlib.Numerals.{add-one}
use native.Mathlib.Omega.{arith}
use lib.Dec.{eqb}
use lib.ListN.{length, get_or, drop, set, length-set}
use borrow.Author.Tests.{eqb-true, le-leb, lt-leb}
use Rattle.model.specs.Rows.{parts_fit, table}
use Rattle.words.specs.Chain.{Chained, Empty}
use Rattle.words.specs.Rows.{last_of, total}
use Rattle.words.proofs.Chains.{chained_none, last_hit, last_miss, link_turn}
use Rattle.words.proofs.Laws.{total_le, total_more, total_none}
use Rattle.words.proofs.Scans.{left_on, right_on}
use Rattle.rules.proofs.Fits.{fit_end, fit_step}
use Rattle.succession.specs.Meeting.{ChainedFrom, Homes, begins_by, connection_hash, end_of, first_of, home_of}
use Rattle.succession.specs.Meeting.{meeting_hash}

-- ---- the last row of which p holds
last_is : (n j : ℕ) (p : ℕ → Bool) → j < n → p j ≡ true → ((k : ℕ) → j < k → k < n → p k ≡ false) → last_of n p ≡ suc j
last_is zero j p h e f = absurd (not-suc-le-zero h)
last_is (suc n) j p h e f = ⊎_elim
    (λ q. last_hit n p (subst (λ (k : ℕ). p k ≡ true) q e) ∙ ap suc (sym q))
    (λ lt. last_miss n p (f n lt (le_refl (suc n))) ∙ last_is n j p lt e (λ k a b. f k a (le_step b)))
    (eq-or-lt_of_le (le_of_suc-le-suc h))

pub last_past : (n i : ℕ) (p : ℕ → Bool) → last_of n p ≤ i → i < n → p i ≡ false
last_past zero i p h l = absurd (not-suc-le-zero l)
last_past (suc n) i p h l = go (p n) refl (λ a b. last_past n i p a b)
  where
    go : (t : Bool) → p n ≡ t → (last_of n p ≤ i → i < n → p i ≡ false) → p i ≡ false
    go true e ih = absurd (let q = last_hit n p e in omega arith)
    go false e ih =
        ⊎_elim (λ q. subst (λ (k : ℕ). p k ≡ false) (sym q) e)
        (λ lt. ih (let q = last_miss n p e in omega arith) lt) (eq-or-lt_of_le (le_of_suc-le-suc l))

-- ---- parts that follow one another
abbrev pub count_of : List ℕ → ℕ → ℕ
count_of junctions k = get_or junctions (k * 5 + 4) 0

-- the connections of the first j junctions
abbrev pub start_at : List ℕ → ℕ → ℕ
start_at junctions j = total j (count_of junctions)

module _ (n : ℕ) (junctions : List ℕ) (fit : parts_fit 3 4 0 n (table 5 junctions) ≡ true) where
  fit_from : (j : ℕ) → j ≤ length junctions / 5
      → parts_fit 3 4 (start_at junctions j) n (drop j (table 5 junctions)) ≡ true
  fit_from zero h = ap (λ (k : ℕ). parts_fit 3 4 k n (table 5 junctions)) (sym (total_none (count_of junctions))) ∙ fit
  fit_from (suc j) h =
      ap₂ (λ (k i : ℕ). parts_fit 3 4 k n (drop i (table 5 junctions)))
      (ap (start_at junctions) (sym (add-one j)) ∙ total_more j (count_of junctions)) (sym (add-one j))
      ∙ right_on (eqb (first_of junctions j) (start_at junctions j))
      (parts_fit 3 4 (start_at junctions j + count_of junctions j) n (drop (j + 1) (table 5 junctions)))
      (sym (fit_step 5 3 4 n junctions (omega arith) (omega arith) (start_at junctions j) j (omega arith))
      ∙ fit_from j (omega arith))

  pub first_is : (j : ℕ) → j < length junctions / 5 → first_of junctions j ≡ start_at junctions j
  first_is j h = eqb-true (first_of junctions j) (start_at junctions j)
      (left_on (eqb (first_of junctions j) (start_at junctions j))
      (parts_fit 3 4 (start_at junctions j + count_of junctions j) n (drop (j + 1) (table 5 junctions)))
      (sym (fit_step 5 3 4 n junctions (omega arith) (omega arith) (start_at junctions j) j h)
      ∙ fit_from j (omega arith)))

  pub end_is : (j : ℕ) → j < length junctions / 5 → end_of junctions j ≡ start_at junctions (j + 1)
  end_is j h = ap (λ (k : ℕ). k + count_of junctions j) (first_is j h) ∙ sym (total_more j (count_of junctions))

  pub whole_is : start_at junctions (length junctions / 5) ≡ n
  whole_is = eqb-true (start_at junctions (length junctions / 5)) n
      (sym (fit_end 5 3 4 n junctions (omega arith) (omega arith) (start_at junctions (length junctions / 5))
      (length junctions / 5) (le_refl (length junctions / 5)))
      ∙ fit_from (length junctions / 5) (le_refl (length junctions / 5)))

  pub end_in : (j : ℕ) → j < length junctions / 5 → end_of junctions j ≤ n
  end_in j h =
      let a = end_is j h in
      let b = whole_is in
      let d = total_le (j + 1) (length junctions / 5) (count_of junctions) (omega arith) in omega arith

  pub homes_are : Homes junctions
  unfolding home_of
  homes_are j c lj lo hi =
      last_is (length junctions / 5) j (begins_by junctions c) lj (le-leb (first_of junctions j) c lo)
      (λ k a b.
      lt-leb (first_of junctions k) c
      (let d = first_is k b in
      let e = end_is j lj in let m = total_le (j + 1) k (count_of junctions) (omega arith) in omega arith))
      ∙ sym (add-one j)

  -- ---- all parts, from the last one down
  pub end_before : (j : ℕ) → 0 < j → j ≤ length junctions / 5 → end_of junctions (j - 1) ≡ start_at junctions j
  end_before j p h =
      end_is (j - 1) (omega arith) ∙ ap (start_at junctions) (let q : j - 1 + 1 ≡ j = omega arith in q)

  module _ (sides heads next : List ℕ) where
    pub chains_begin : Empty heads next
        → ChainedFrom junctions sides n (start_at junctions (length junctions / 5)) heads next
    chains_begin empty = record {
      buckets = empty.buckets;
      rows = empty.rows;
      chained = subst (λ (k : ℕ). Chained (connection_hash junctions sides n) k heads next)
          (let a = whole_is in let q : 0 ≡ n - start_at junctions (length junctions / 5) = omega arith in q)
          (chained_none (connection_hash junctions sides n) empty);
    }

    pub chains_end : (j : ℕ) → j ≡ 0 → ChainedFrom junctions sides n (start_at junctions j) heads next
        → Chained (connection_hash junctions sides n) n heads next
    chains_end j z k = subst (λ (i : ℕ). Chained (connection_hash junctions sides n) i heads next)
        (let a = total_none (count_of junctions) in
        let b = ap (start_at junctions) z in let q : n - start_at junctions j ≡ n = omega arith in q) k.chained

-- ---- a part's connections put in front of their chains: those from c on are in, and c - 1 is next
module _ (junctions sides : List ℕ) (n j c : ℕ) (homes : Homes junctions) (lj : j < length junctions / 5)
    (lo : first_of junctions j < c) (hi : c ≤ end_of junctions j) (fits : end_of junctions j ≤ n) where
  hash_at : connection_hash junctions sides n (n - c) ≡ meeting_hash (j + 1) (get_or sides ((c - 1) * 2) 0)
  unfolding connection_hash
  hash_at =
      ap (λ (x : ℕ). meeting_hash (home_of junctions x) (get_or sides (x * 2) 0))
      (let q : n - (n - c + 1) ≡ c - 1 = omega arith in q)
      ∙ ap (λ (x : ℕ). meeting_hash x (get_or sides ((c - 1) * 2) 0)) (homes j (c - 1) lj (omega arith) (omega arith))

  pub part_turn : (heads next : List ℕ) {heads' next' : List ℕ} {h row : ℕ}
      → ChainedFrom junctions sides n c heads next
      → h ≡ meeting_hash (j + 1) (get_or sides ((c - 1) * 2) 0) → h < 16384 → n ≤ 16384 → row ≡ n - c
      → heads' ≡ set heads h (row + 1) → next' ≡ set next row (get_or heads h 0)
      → ChainedFrom junctions sides n (c - 1) heads' next'
  part_turn heads next {heads'} {next'} {h} {row} k e l m at p q =
      let low : row < length next = (let w = k.rows in omega arith) in record {
        buckets = ap length p ∙ length-set heads h (row + 1) ∙ k.buckets;
        rows = ap length q ∙ length-set next row (get_or heads h 0) ∙ k.rows;
        chained = subst (λ (i : ℕ). Chained (connection_hash junctions sides n) i heads' next')
            (let z : row + 1 ≡ n - (c - 1) = omega arith in z)
            (link_turn (connection_hash junctions sides n) row heads next (rw at k.chained)
            (e ∙ sym hash_at ∙ ap (connection_hash junctions sides n) (sym at)) (let w = k.buckets in omega arith) low p
            q);
      }
