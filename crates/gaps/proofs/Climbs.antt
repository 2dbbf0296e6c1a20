-- 11 by places: what the tests of offsets and identities answer.
use Prim.Native.Nat.{ℕ, zero, suc, ◌+◌, ◌-◌, ◌*◌, ◌/◌, ◌<◌, ◌≤◌}
use mathlib.Core.Path.{◌≡◌, refl, sym, ap, ap₂, ◌∙◌}
use mathlib.Core.List.{List, [], ◌∷◌}
use mathlib.Core.Bool.{Bool, true, false, not, ◌&&◌}
use native.Mathlib.Nat.{le_of_suc-le-suc, not-suc-le-zero}
use native.Mathlib.Numerals.{add-one}
use native.Mathlib.Omega.{arith}
use lib.ListN.{length, get_or}
use lib.Seq.{get_or-drop}
use lib.Dec.{eqb, leb}
use borrow.Author.Tests.{eq-eqb, eqb-false, eqb-true, le-leb, leb-true, lt-leb, ne_eqb, not-true}
use denote.Ref.{Bor}
use Rattle.std.proofs.Common.{Option, None, Some}
use Rattle.std.proofs.lemmas.Option.{slice_get-get_or}
use Rattle.std.specs.List.{slice_get}
use Rattle.std.specs.List.Sorted.{IsNonDecreasing}
use Rattle.std.specs.Option.{is_some, option_copied, option_eq}
use Rattle.model.specs.Lists.{every, some?}
use Rattle.model.specs.Rules.{borne, climbs, climbs_to}
use Rattle.model.specs.Tables.{lane_in, lanes_in}
use Rattle.words.specs.Chain.{stored}
use Rattle.words.specs.Keys.{is_id}
use Rattle.words.specs.Rows.{from, last_of}
use Rattle.words.proofs.Chains.{last_le}
use Rattle.words.proofs.KeyLaws.{any_is}
use Rattle.words.proofs.Laws.{any_same}
use Rattle.words.proofs.Scans.{and_off, and_off_left, left_on, right_on, some_tab}
use Rattle.rules.proofs.Forms.{lanes_tab}
use Rattle.gaps.specs.Links.{lists_right}

-- ---- offsets
-- the first is 0
abbrev pub begins : List ℕ → Bool
begins [] = false
begins (o ∷ os) = eqb o 0

-- the last is the end
abbrev pub ends : ℕ → List ℕ → Bool
ends end [] = false
ends end (o ∷ os) = eqb (get_or (o ∷ os) (length os) 0) end

pub begins_is : (os : List ℕ) (r : Option (Bor ℕ)) (nought : Bor ℕ) {b : Bool} → nought.now ≡ 0
    → option_copied r ≡ slice_get os 0 → b ≡ option_eq (λ x y. eqb x.now y.now) r (Some nought) → b ≡ begins os
begins_is [] None nought none first is = is
begins_is [] (Some x) nought none first is = absurd (cc)
begins_is (o ∷ os) None nought none first is = absurd (cc)
begins_is (o ∷ os) (Some x) nought none first is =
    let same : x.now ≡ o = cc in is ∙ ap₂ (λ (m n : ℕ). eqb m n) same none

found_last : (o : ℕ) (os : List ℕ) → slice_get (o ∷ os) (length (o ∷ os) - 1) ≡ Some (get_or (o ∷ os) (length os) 0)
found_last o os =
    let here : suc (length os) - 1 ≡ length os = omega arith in
    ap (slice_get (o ∷ os)) here ∙ slice_get-get_or (o ∷ os) (length os) 0 (omega arith)

pub ends_is : (end : ℕ) (os : List ℕ) (r : Option (Bor ℕ)) {b : Bool}
    → option_copied r ≡ slice_get os (length os - 1) → (r ≡ None → b ≡ false)
    → ((x : Bor ℕ) → r ≡ Some x → b ≡ eqb x.now end) → b ≡ ends end os
ends_is end [] None last no_last is = no_last refl
ends_is end [] (Some x) last no_last is = absurd (cc)
ends_is end (o ∷ os) None last no_last is = absurd (let found = found_last o os in cc)
ends_is end (o ∷ os) (Some x) last no_last is =
    let found = found_last o os in
    let same : x.now ≡ get_or (o ∷ os) (length os) 0 = cc in
    is x refl ∙ ap (λ (m : ℕ). eqb m end) same

-- offsets that do not begin at 0
pub climbs_off : (end : ℕ) (os : List ℕ) → begins os ≡ false → false ≡ climbs end os
climbs_off end [] e = refl
climbs_off end (o ∷ os) e = sym (and_off_left (eqb o 0) (climbs_to end o os) e)

-- that fall
climbs_down : (end o : ℕ) (os : List ℕ) (k : ℕ) → k < length os → get_or os k 0 < get_or (o ∷ os) k 0
    → climbs_to end o os ≡ false
climbs_down end o [] k h l = absurd (not-suc-le-zero h)
climbs_down end o (p ∷ os) zero h l = and_off_left (leb o p) (climbs_to end p os) (lt-leb o p l)
climbs_down end o (p ∷ os) (suc k) h l =
    ap (λ b. leb o p && b) (climbs_down end p os k (le_of_suc-le-suc h) l) ∙ and_off (leb o p) false refl

pub climbs_falls : (end : ℕ) (os : List ℕ) (k : ℕ) → k + 1 < length os → get_or os (k + 1) 0 < get_or os k 0
    → false ≡ climbs end os
climbs_falls end [] k h l = refl
climbs_falls end (o ∷ os) k h l =
    sym (ap (λ b. eqb o 0 && b)
    (climbs_down end o os k (le_of_suc-le-suc (rw (add-one k) at h)) (rw (add-one k) at l))
    ∙ and_off (eqb o 0) false refl)

-- and that begin at 0 and do not fall
climbs_up : (end o : ℕ) (os : List ℕ) → IsNonDecreasing (o ∷ os) → climbs_to end o os ≡ ends end (o ∷ os)
climbs_up end o [] up = refl
climbs_up end o (p ∷ os) up =
    let rises : o ≤ p = up 0 1 0 (omega arith) (omega arith) in
    let rest : IsNonDecreasing (p ∷ os) = λ i j d low high. up (suc i) (suc j) d (omega arith) (omega arith) in
    ap (λ b. b && climbs_to end p os) (le-leb o p rises) ∙ climbs_up end p os rest

pub climbs_on : (end : ℕ) (os : List ℕ) → begins os ≡ true → IsNonDecreasing os → ends end os ≡ climbs end os
climbs_on end [] e up = refl
climbs_on end (o ∷ os) e up =
    sym (ap (λ b. b && climbs_to end o os) e ∙ climbs_up end o os up)

-- what climbing offsets say of two that follow one another
climbs_last : (end o : ℕ) (os : List ℕ) → climbs_to end o os ≡ true → o ≤ end
climbs_last end o [] e = let z = eqb-true o end e in omega arith
climbs_last end o (p ∷ os) e =
    let a = leb-true o p (left_on (leb o p) (climbs_to end p os) e) in
    let b = climbs_last end p os (right_on (leb o p) (climbs_to end p os) e) in omega arith

climbs_pair : (end o : ℕ) (os : List ℕ) (i : ℕ) → climbs_to end o os ≡ true → i < length os
    → (get_or (o ∷ os) i 0 ≤ get_or os i 0) × (get_or os i 0 ≤ end)
climbs_pair end o [] i e h = absurd (not-suc-le-zero h)
climbs_pair end o (p ∷ os) zero e h = (
  leb-true o p (left_on (leb o p) (climbs_to end p os) e),
  climbs_last end p os (right_on (leb o p) (climbs_to end p os) e),
)
climbs_pair end o (p ∷ os) (suc i) e h =
    climbs_pair end p os i (right_on (leb o p) (climbs_to end p os) e) (le_of_suc-le-suc h)

pub climbs_at : (end : ℕ) (os : List ℕ) (i : ℕ) → climbs end os ≡ true → i + 1 < length os
    → (get_or os i 0 ≤ get_or os (i + 1) 0) × (get_or os (i + 1) 0 ≤ end)
climbs_at end [] i e h = absurd (not-suc-le-zero h)
climbs_at end (o ∷ os) i e h =
    rw add-one
    (climbs_pair end o os i (right_on (eqb o 0) (climbs_to end o os) e) (le_of_suc-le-suc (rw add-one at h)))

-- ---- identities
pub borne_is : (lanes : List ℕ) (k : ℕ)
    → borne (lanes_in lanes) k ≡ not (eqb (last_of (length lanes / 10) (is_id lanes k)) 0)
unfolding borne lanes_in lane_in is_id
borne_is lanes k =
    ap (some? (λ l. eqb l.identity k)) (lanes_tab lanes)
    ∙ some_tab (λ l. eqb l.identity k) (length lanes / 10) (λ i. lane_in (from 10 lanes i))
    ∙ any_same (length lanes / 10) (λ i. eqb (get_or (from 10 lanes i) 0 0) k)
    (λ i. eqb (get_or lanes (i * 10) 0) k)
    (λ i lt.
    ap (λ (w : ℕ). eqb w k)
    (get_or-drop (i * 10) lanes 0 0 ∙ ap (λ (m : ℕ). get_or lanes m 0) (native.Mathlib.Nat.add-zero (i * 10))))
    ∙ any_is (length lanes / 10) (λ i. eqb (get_or lanes (i * 10) 0) k)

-- a lane is found where one bears the identity
some_row : (r : Option ℕ) → is_some r ≡ not (eqb (stored r) 0)
some_row None = refl
some_row (Some r) = sym (ap not (ne_eqb (suc r) 0 (λ e. let z : suc r ≡ 0 = e in omega arith)))

pub found_is : (lanes : List ℕ) (k : ℕ) (r : Option ℕ) {b : Bool} → b ≡ is_some r
    → stored r ≡ last_of (length lanes / 10) (is_id lanes k) → b ≡ borne (lanes_in lanes) k
found_is lanes k r is found =
    is ∙ some_row r ∙ ap (λ (m : ℕ). not (eqb m 0)) found ∙ sym (borne_is lanes k)

module _ (p : ℕ → Bool) where
  pub every_at : (xs : List ℕ) (k : ℕ) → every p xs ≡ true → k < length xs → p (get_or xs k 0) ≡ true
  every_at [] k e h = absurd (not-suc-le-zero h)
  every_at (x ∷ xs) zero e h = left_on (p x) (every p xs) e
  every_at (x ∷ xs) (suc k) e h = every_at xs k (right_on (p x) (every p xs) e) (le_of_suc-le-suc h)

-- each identity has a bearer
pub bearer : (lanes ids : List ℕ) → every (borne (lanes_in lanes)) ids ≡ true → (k : ℕ) → k < length ids
    → (0 < last_of (length lanes / 10) (is_id lanes (get_or ids k 0)))
    × (last_of (length lanes / 10) (is_id lanes (get_or ids k 0)) ≤ length lanes / 10)
bearer lanes ids all_borne k there =
    let last = last_of (length lanes / 10) (is_id lanes (get_or ids k 0)) in
    let found = sym (borne_is lanes (get_or ids k 0)) ∙ every_at (borne (lanes_in lanes)) ids k all_borne there in
    (above last (eqb-false last 0 (not-true _ found)), last_le (length lanes / 10) (is_id lanes (get_or ids k 0)))
  where
    above : (m : ℕ) → (m ≡ 0 → ⊥) → 0 < m
    above zero n = absurd (n refl)
    above (suc m) n = omega arith

-- ---- what rule 11 says
module _ (lanes offsets ids : List ℕ) (e : lists_right lanes offsets ids ≡ true) where
  pub right_borne : every (borne (lanes_in lanes)) ids ≡ true
  right_borne =
      right_on (eqb (length offsets) (suc (length lanes / 10)) && climbs (length ids) offsets)
      (every (borne (lanes_in lanes)) ids) e

  right_two : (eqb (length offsets) (suc (length lanes / 10)) && climbs (length ids) offsets) ≡ true
  right_two =
      left_on (eqb (length offsets) (suc (length lanes / 10)) && climbs (length ids) offsets)
      (every (borne (lanes_in lanes)) ids) e

  pub right_count : length offsets ≡ suc (length lanes / 10)
  right_count =
      eqb-true (length offsets) (suc (length lanes / 10))
      (left_on (eqb (length offsets) (suc (length lanes / 10))) (climbs (length ids) offsets) right_two)

  pub right_climbs : climbs (length ids) offsets ≡ true
  right_climbs = right_on (eqb (length offsets) (suc (length lanes / 10))) (climbs (length ids) offsets) right_two

  -- the offsets of lane i
  pub right_at : (i : ℕ) → i < length lanes / 10
      → (get_or offsets i 0 ≤ get_or offsets (i + 1) 0) × (get_or offsets (i + 1) 0 ≤ length ids)
  right_at i h = climbs_at (length ids) offsets i right_climbs (let c = right_count in omega arith)

-- the three parts of rule 11
pub lists_on : (lanes offsets ids : List ℕ) {climb b : Bool} → length offsets ≡ length lanes / 10 + 1
    → climb ≡ climbs (length ids) offsets → climb ≡ true → b ≡ every (borne (lanes_in lanes)) ids
    → b ≡ lists_right lanes offsets ids
lists_on lanes offsets ids counted climbing on borne_lem =
    let count : length offsets ≡ suc (length lanes / 10) = omega arith in
    borne_lem
    ∙ sym (ap₂ (λ (p q : Bool). p && q && every (borne (lanes_in lanes)) ids)
    (eq-eqb (length offsets) (suc (length lanes / 10)) count) (sym climbing ∙ on))
