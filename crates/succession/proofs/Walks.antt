-- Along a chain: all connections of a junction from a road, in row order.
use Prim.Native.Nat.{ℕ, zero, suc, ◌+◌, ◌-◌, ◌*◌, ◌/◌, ◌<◌, ◌≤◌}
use mathlib.Core.Path.{◌≡◌, refl, sym, ap, ap₂, ◌∙◌, subst}
use mathlib.Core.Logic.{⊎_elim}
use mathlib.Core.Bool.{Bool, true, false, ◌&&◌, cond}
use mathlib.Core.List.{List, [], ◌++◌, append-nil}
use native.Mathlib.Nat.{le_refl, le_of_suc-le-suc, eq-or-lt_of_le}
use native.Mathlib.Omega.{arith}
use lib.Dec.{eqb, leb, ltb}
use lib.ListN.{length, get_or}
use borrow.Author.Tests.{eqb-true, eqb-false, le-leb, le-ltb, leb-true, lt-leb, lt-ltb, ltb-true}
use Rattle.model.specs.Succession.{Entry}
use Rattle.words.specs.Chain.{within}
use Rattle.words.specs.Rows.{joined, last_of}
use Rattle.words.proofs.Chains.{last_has, last_le}
use Rattle.words.proofs.Joins.{joined_none, joined_same}
use Rattle.words.proofs.Scans.{and_off_left, and_on, and_step, left_on, right_on}
use Rattle.succession.specs.ByRow.{Room, Rows, Sound, connection_by_row, junction_by_row, pairs_by_row, ranged}
use Rattle.succession.specs.Meeting.{Homes, Meeting, connection_hash, end_of, first_of, home_of, meeting_at}
use Rattle.succession.specs.Meeting.{meeting_hash, meets}
use Rattle.succession.proofs.Homes.{last_past}
use Rattle.succession.specs.declared.entries.Run.{Run}
use Rattle.succession.specs.Grown.{Grown}
use Rattle.succession.proofs.Growth.{grown_none, turns_on, turns_room, turns_long}

-- ---- ranges with nothing in some places
module _ {A : Type 0} (g : ℕ → List A) where
  joined_quiet : (n m : ℕ) → n ≤ m → ((c : ℕ) → n ≤ c → c < m → g c ≡ []) → joined n g ≡ joined m g
  unfolding joined
  joined_quiet n zero h f = ap (λ (k : ℕ). joined k g) (let e : n ≡ 0 = omega arith in e)
  joined_quiet n (suc m) h f = ⊎_elim
      (λ q. ap (λ (k : ℕ). joined k g) q)
      (λ lt. joined_quiet n m (le_of_suc-le-suc lt) (λ c a b. f c a (omega arith)) ∙ sym (append-nil (joined m g))
      ∙ ap (λ (l : List A). joined m g ++ l) (sym (f m (le_of_suc-le-suc lt) (le_refl (suc m)))))
      (eq-or-lt_of_le h)

  ranged_part : (f : ℕ → List A) (first n : ℕ) → ((c : ℕ) → c < first → g c ≡ [])
      → ((c : ℕ) → first ≤ c → c < first + n → g c ≡ f c) → joined (first + n) g ≡ ranged first n f
  unfolding joined
  ranged_part f first zero lo e =
      ap (λ (k : ℕ). joined k g) (let q : first + 0 ≡ first = omega arith in q)
      ∙ sym (joined_quiet 0 first (omega arith) (λ c a b. lo c b))
  ranged_part f first (suc n) lo e =
      ap (λ (k : ℕ). joined k g) (let q : first + suc n ≡ suc (first + n) = omega arith in q)
      ∙ ap₂ (λ (a b : List A). a ++ b) (ranged_part f first n lo (λ c a b. e c a (omega arith)))
      (e (first + n) (omega arith) (omega arith))

-- ---- one connection
module _ (R : Rows) (j w k c : ℕ) where
  pub meeting_none : meets R.junctions R.sides j w c ≡ false → meeting_at R j w k c ≡ []
  unfolding meeting_at
  meeting_none e = ap (λ (b : Bool). cond b (pairs_by_row R c k) []) e

  pub meeting_leads : meets R.junctions R.sides j w c ≡ true → meeting_at R j w k c ≡ pairs_by_row R c k
  unfolding meeting_at
  meeting_leads e = ap (λ (b : Bool). cond b (pairs_by_row R c k) []) e

  outside : leb (first_of R.junctions j) c && ltb c (end_of R.junctions j) ≡ false → meeting_at R j w k c ≡ []
  outside e =
      meeting_none (unfold meets in and_off_left
      (leb (first_of R.junctions j) c && ltb c (end_of R.junctions j)) (eqb (get_or R.sides (c * 2) 0) w)
      e)

  before : c < first_of R.junctions j → meeting_at R j w k c ≡ []
  before h =
      outside (and_off_left (leb (first_of R.junctions j) c) (ltb c (end_of R.junctions j))
      (lt-leb (first_of R.junctions j) c h))

  after : end_of R.junctions j ≤ c → meeting_at R j w k c ≡ []
  after h =
      outside (and_on (leb (first_of R.junctions j) c) (ltb c (end_of R.junctions j))
      (le-leb (first_of R.junctions j) c (omega arith))
      ∙ le-ltb c (end_of R.junctions j) h)

  inside : first_of R.junctions j ≤ c → c < end_of R.junctions j → meeting_at R j w k c ≡ connection_by_row R w k c
  unfolding meeting_at meets connection_by_row
  inside lo hi =
      ap (λ (b : Bool). cond (b && eqb (get_or R.sides (c * 2) 0) w) (pairs_by_row R c k) [])
      (and_step (le-leb (first_of R.junctions j) c lo) (lt-ltb c (end_of R.junctions j) hi))

  -- none in another bucket
  pub meeting_quiet : (n : ℕ) → Homes R.junctions → j < length R.junctions / 5 → c < n
      → (connection_hash R.junctions R.sides n (n - (c + 1)) ≡ meeting_hash (j + 1) w → ⊥)
      → meeting_at R j w k c ≡ []
  meeting_quiet n homes lj lc away = meeting_none (go (meets R.junctions R.sides j w c) refl)
    where
      hash : meets R.junctions R.sides j w c ≡ true
          → connection_hash R.junctions R.sides n (n - (c + 1)) ≡ meeting_hash (j + 1) w
      hash e = unfold connection_hash meets in
          let a =
          left_on (leb (first_of R.junctions j) c && ltb c (end_of R.junctions j))
          (eqb (get_or R.sides (c * 2) 0) w) e in
          ap (λ (x : ℕ). meeting_hash (home_of R.junctions x) (get_or R.sides (x * 2) 0))
          (let q : n - (n - (c + 1) + 1) ≡ c = omega arith in q)
          ∙ ap₂ meeting_hash
          (homes j c lj (leb-true (first_of R.junctions j) c
          (left_on (leb (first_of R.junctions j) c) (ltb c (end_of R.junctions j)) a))
          (ltb-true c (end_of R.junctions j)
          (right_on (leb (first_of R.junctions j) c) (ltb c (end_of R.junctions j)) a)))
          (eqb-true (get_or R.sides (c * 2) 0) w
          (right_on (leb (first_of R.junctions j) c && ltb c (end_of R.junctions j))
          (eqb (get_or R.sides (c * 2) 0) w) e))

      go : (t : Bool) → meets R.junctions R.sides j w c ≡ t → meets R.junctions R.sides j w c ≡ false
      go true e = absurd (away (hash e))
      go false e = e

-- a junction's connections are all connections, those that do not meet leading nowhere
junction_met : (R : Rows) (j w k n : ℕ) → end_of R.junctions j ≤ n
    → junction_by_row R j w k ≡ joined n (meeting_at R j w k)
unfolding junction_by_row
junction_met R j w k n h =
    sym (ranged_part (meeting_at R j w k) (connection_by_row R w k) (first_of R.junctions j)
    (get_or R.junctions (j * 5 + 4) 0) (λ c. before R j w k c) (λ c. inside R j w k c))
    ∙ joined_quiet (meeting_at R j w k) (end_of R.junctions j) n h (λ c a b. after R j w k c a)

-- ---- the walk: the connections before n - at are taken in, and at is the next of the bucket
pub record Walked (R : Rows) (n j w k : ℕ) (old : Run) (at : ℕ) (run : Run) : Type 0 where
  pub below : at ≤ n
  pub bucket : (r : ℕ) → at ≡ suc r → connection_hash R.junctions R.sides n r ≡ meeting_hash (j + 1) w
  pub grown : Grown (joined (n - at) (meeting_at R j w k)) old run

module _ (R : Rows) (j w k : ℕ) (old : Run) {heads next : List ℕ} (sound : Sound R)
    (met : Meeting R.junctions R.connections R.sides heads next)
    (room : Room old.len (junction_by_row R j w k) old.words.now) (lj : j < length R.junctions / 5) where
  abbrev n : ℕ
  n = length R.connections / 7

  fits : end_of R.junctions j ≤ n
  fits = sound.connection_parts j lj

  abbrev hash : ℕ → ℕ
  hash i = connection_hash R.junctions R.sides n i

  -- all connections, from the first on
  from_first : (x : ℕ) → joined x (meeting_at R j w k) ≡ ranged 0 x (meeting_at R j w k)
  from_first x =
      joined_same x (meeting_at R j w k) (λ i. meeting_at R j w k (0 + i))
      (λ i h. ap (meeting_at R j w k) (let z : i ≡ 0 + i = omega arith in z))

  spread : Room old.len (ranged 0 n (meeting_at R j w k)) old.words.now
  spread = subst (λ (es : List Entry). Room old.len es old.words.now) (junction_met R j w k n fits ∙ from_first n) room

  -- nothing is missed between two of the bucket
  gap : (lo hi : ℕ) → hi ≤ n → lo ≤ hi → ((i : ℕ) → lo ≤ i → i < hi → hash i ≡ meeting_hash (j + 1) w → ⊥)
      → joined (n - hi) (meeting_at R j w k) ≡ joined (n - lo) (meeting_at R j w k)
  gap lo hi h l away =
      joined_quiet (meeting_at R j w k) (n - hi) (n - lo) (omega arith)
      (λ c a b.
      meeting_quiet R j w k c n met.homes lj (omega arith) (away (n - (c + 1)) (omega arith) (omega arith)))

  pub walk_begin : (b at : ℕ) → b ≡ meeting_hash (j + 1) w → b < 16384 → at ≡ get_or heads b 0
      → Walked R n j w k old at old
  walk_begin b at e lb q = record {
    below = subst (λ (x : ℕ). x ≤ n) (sym is) (last_le n (within hash b));
    bucket = λ r z. eqb-true (hash r) b (last_has n r (within hash b) (sym is ∙ z)) ∙ e;
    grown = subst (λ (es : List Entry). Grown es old old) nothing
        (grown_none old room);
  }
    where
      is : at ≡ last_of n (within hash b)
      is = q ∙ met.chained.head b (let h = met.buckets in omega arith)

      nothing : [] ≡ joined (n - at) (meeting_at R j w k)
      nothing =
          sym (joined_none (meeting_at R j w k))
          ∙ ap (λ (x : ℕ). joined x (meeting_at R j w k)) (let z : 0 ≡ n - n = omega arith in z)
          ∙ gap at n (le_refl n) (subst (λ (x : ℕ). x ≤ n) (sym is) (last_le n (within hash b)))
          (λ i a l f.
          eqb-false (hash i) b (last_past n i (within hash b) (subst (λ (x : ℕ). x ≤ i) is a) l) (f ∙ sym e))

  module _ (at : ℕ) (run : Run) (k' : Walked R n j w k old at run) where
    so_far : (c : ℕ) → c ≡ n - at → Grown (ranged 0 (c - 0) (meeting_at R j w k)) old run
    so_far c q =
        subst (λ (es : List Entry). Grown es old run)
        (ap (λ (x : ℕ). joined x (meeting_at R j w k)) (let z : n - at ≡ c - 0 = omega arith in z)
        ∙ from_first (c - 0)) k'.grown

    pub walk_long : length run.words.now ≡ length old.words.now
    walk_long =
        turns_long old.both old.len 0 n (meeting_at R j w k) old.words.now spread (n - at) run.len run.words.now
        (so_far (n - at) refl).took (omega arith) (omega arith)

    pub walk_end : at ≡ 0 → Grown (junction_by_row R j w k) old run
    walk_end z =
        subst (λ (es : List Entry). Grown es old run)
        (ap (λ (x : ℕ). joined x (meeting_at R j w k)) (let e : n - at ≡ n = omega arith in e)
        ∙ sym (junction_met R j w k n fits)) k'.grown

    -- at row i of the chain, connection c
    module _ (i : ℕ) (row : at ≡ suc i) where
      abbrev c : ℕ
      c = n - 1 - i

      is_link : get_or next i 0 ≡ last_of i (within hash (hash i))
      is_link = met.chained.link i (let b = k'.below in omega arith)

      pub walk_less : get_or next i 0 < at
      walk_less = let a = is_link in let b = last_le i (within hash (hash i)) in omega arith

      pub walk_room : Room run.len (meeting_at R j w k (n - 1 - i)) run.words.now
      walk_room =
          turns_room 0 n (meeting_at R j w k) old spread c run (so_far c (omega arith)) (omega arith)
          (let b = k'.below in omega arith)

      pub walk_on : (at' : ℕ) (new : Run) → at' ≡ get_or next i 0
          → Grown (meeting_at R j w k (n - 1 - i)) run new → Walked R n j w k old at' new
      walk_on at' new e t = record {
        below = let a = walk_less in let b = k'.below in omega arith;
        bucket = λ r z. eqb-true (hash r) (hash i) (last_has i r (within hash (hash i)) (sym is ∙ z)) ∙ own;
        grown = subst (λ (es : List Entry). Grown es old new)
            (sym (from_first (c + 1 - 0))
            ∙ ap (λ (x : ℕ). joined x (meeting_at R j w k))
            (let b = k'.below in let z : c + 1 - 0 ≡ n - i = omega arith in z)
            ∙ gap at' i (let b = k'.below in omega arith)
            (let a = last_le i (within hash (hash i)) in let z = is in omega arith)
            (λ q a l f.
            eqb-false (hash q) (hash i) (last_past i q (within hash (hash i)) (subst (λ (x : ℕ). x ≤ q) is a) l)
            (f ∙ sym own)))
            (turns_on 0 n (meeting_at R j w k) old spread c run (so_far c (omega arith)) (omega arith)
            (let b = k'.below in omega arith) new t);
      }
        where
          is : at' ≡ last_of i (within hash (hash i))
          is = e ∙ is_link

          own : hash i ≡ meeting_hash (j + 1) w
          own = k'.bucket i row
