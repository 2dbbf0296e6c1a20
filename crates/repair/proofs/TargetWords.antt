-- A road's target at one of its ends, and a connection's words.
use mathlib.Core.Path.{◌≡◌, refl, sym, ap, ◌∙◌}
use mathlib.Core.Bool.{Bool, true, false, not, cond, ◌&&◌, ◌||◌}
use mathlib.Core.Option.{Option, none, some}
use mathlib.Core.List.{List, [], ◌∷◌}
use Prim.Native.Nat.{ℕ, suc, ◌+◌, ◌*◌, zero, ◌≤◌}
use native.Mathlib.Nat.{add-zero, add_assoc, not-suc-le-zero, le_of_suc-le-suc}
use native.Mathlib.Omega.{arith}
use lib.ListN.{get_or, drop, length}
use lib.Seq.{get_or-drop}
use Rattle.std.specs.Prelude as code
use Rattle.std.specs.Bool.{then_some}
use Rattle.std.specs.Option as options
use Rattle.model.specs.Lists.{pick, is_some}
use Rattle.model.specs.Records.{Target, target_at, Span}
use Rattle.model.specs.Repair.{linked, vacant_end, names_junction, meets, meeting_end}
use Rattle.model.specs.Tables.{bit, flag, target_in, target_of, connection_in}
use Rattle.words.specs.Fields.{target_read}
use Rattle.words.specs.declared.target.Target.{Target as Here}
use Rattle.words.specs.Rows.{from, name_at, name_from, span}
use Rattle.rules.proofs.Forms.{name_at_lem}
use Rattle.repair.specs.Now.{connection_at, end_now, end_read, road_now, target_now}
use lib.Dec.{eqb}
use Rattle.laws.proofs.Encoded.{flag_bit}

-- past the end of a table
pub at_past : (ws : List ℕ) (k : ℕ) → length ws ≤ k → 0 ≡ get_or ws k 0
at_past [] k h = refl
at_past (x ∷ ws) zero h = absurd (not-suc-le-zero h)
at_past (x ∷ ws) (suc k) h = at_past ws k (le_of_suc-le-suc h)

pub one_is : (x : ℕ) → (x ≡ 1 → ⊥) → 0 ≡ bit (eqb x 1)
one_is x n = sym (ap bit (borrow.Author.Tests.ne_eqb x 1 n))

-- ---- a target from a table on, and from one of its rows on
module _ (ws : List ℕ) (a k : ℕ) where
  shift : (j : ℕ) → get_or ws (a + k + j) 0 ≡ get_or (drop a ws) (k + j) 0
  shift j = ap (λ (m : ℕ). get_or ws m 0) (add_assoc a k j) ∙ sym (get_or-drop a ws (k + j) 0)

  in_row : target_in ws (a + k) ≡ target_in (drop a ws) k
  in_row =
      λ i.
      target_of (sym (get_or-drop a ws k 0) i) (shift 1 i) (shift 2 i) (shift 3 i) (shift 4 i) (shift 5 i)
      (shift 6 i)

-- ---- the target at an end of a road now, by the end's word
module _ (roads junctions ends : List ℕ) (r : ℕ) (e : Bool) where
  abbrev at_word : ℕ → Option Target
  at_word w = end_now w (target_in (from 20 roads r) (pick e 4 11)) (λ k. linked (name_at 5 0 junctions k) e)

  module _ {end : ℕ} (end_is : end ≡ bit e) where
    word_at : {w : ℕ} → get_or ends (r * 2 + end) 0 ≡ w → get_or ends (r * 2 + bit e) 0 ≡ w
    word_at word = ap (λ (n : ℕ). get_or ends (r * 2 + n) 0) (sym end_is) ∙ word

    pub end_as_read : get_or ends (r * 2 + end) 0 ≡ 0
        → target_in roads (r * 20 + 4 + end * 7) ≡ target_now roads junctions ends r e
    unfolding target_now
    end_as_read word =
        ap (target_in roads) (ap (λ (n : ℕ). r * 20 + 4 + n * 7) end_is ∙ place e)
        ∙ in_row roads (r * 20) (pick e 4 11)
        ∙ sym (ap at_word (word_at word))
      where
        place : (e : Bool) → r * 20 + 4 + bit e * 7 ≡ r * 20 + pick e 4 11
        place true = omega arith
        place false = omega arith

    pub end_absent : get_or ends (r * 2 + end) 0 ≡ 1 → none ≡ target_now roads junctions ends r e
    unfolding target_now
    end_absent word = sym (ap at_word (word_at word))

    pub end_given : (k : ℕ) {start size : ℕ} → get_or ends (r * 2 + end) 0 ≡ suc (suc k)
        → start ≡ get_or junctions (k * 5) 0 → size ≡ get_or junctions (k * 5 + 1) 0
        → some (record { is_junction = true; name = span start size; contact = e; given = true; along = false })
        ≡ target_now roads junctions ends r e
    unfolding target_now linked
    end_given k word start size =
        ap some (λ i. linked (span (start i) (size i)) e)
        ∙ ap (λ (n : ℕ). some (linked (name_from junctions n) e)) (sym (add-zero (k * 5)))
        ∙ sym (ap at_word (word_at word))

-- ---- tests of a target's words
names_is : (same : Span → Span → Bool) (j : Span) (p k s n c g a : ℕ)
    → (eqb p 1 && eqb k 1) && same (span s n) j ≡ names_junction same j (target_of p k s n c g a)
names_is same j p k s n c g a = go (eqb p 1)
  where
    go : (b : Bool)
        → (b && eqb k 1) && same (span s n) j
        ≡ names_junction same j (cond b (some
        (record { is_junction = eqb k 1; name = span s n; contact = eqb c 1; given = eqb g 1; along = eqb a 1 }))
        none)
    go true = refl
    go false = refl

pub names_of : (same : Span → Span → Bool) (j : Span) (ws : List ℕ)
    → (eqb (get_or ws 0 0) 1 && eqb (get_or ws 1 0) 1) && same (span (get_or ws 2 0) (get_or ws 3 0)) j
    ≡ names_junction same j (target_in ws 0)
names_of same j ws =
    names_is same j (get_or ws 0 0) (get_or ws 1 0) (get_or ws 2 0) (get_or ws 3 0) (get_or ws 4 0) (get_or ws 5 0)
    (get_or ws 6 0)

-- is there a target?
present_is : (p k s n c g a : ℕ) → is_some (target_of p k s n c g a) ≡ eqb p 1
present_is p k s n c g a = go (eqb p 1)
  where
    go : (b : Bool)
        → is_some {A = Target} (cond b (some
        (record { is_junction = eqb k 1; name = span s n; contact = eqb c 1; given = eqb g 1; along = eqb a 1 }))
        none) ≡ b
    go true = refl
    go false = refl

pub present_of : (ws : List ℕ) → is_some (target_in ws 0) ≡ eqb (get_or ws 0 0) 1
present_of ws =
    present_is (get_or ws 0 0) (get_or ws 1 0) (get_or ws 2 0) (get_or ws 3 0) (get_or ws 4 0) (get_or ws 5 0)
    (get_or ws 6 0)

-- ---- an end of a road now
pub at_end_lem : (ss roads junctions ends : List ℕ) (r : ℕ) (e : Bool)
    → target_at e (road_now ss roads junctions ends r) ≡ target_now roads junctions ends r e
unfolding road_now
at_end_lem ss roads junctions ends r true = refl
at_end_lem ss roads junctions ends r false = refl

-- if it is vacant
pub vacant_is : (ss roads junctions ends : List ℕ) (r : ℕ) (e : Bool) (target : code.Option Here) {occupied : Bool}
    {vacant : code.Option Bool} → target_read target ≡ target_now roads junctions ends r e
    → occupied ≡ options.is_some target → vacant ≡ then_some (not occupied) e
    → end_read vacant ≡ vacant_end (road_now ss roads junctions ends r) e
unfolding vacant_end
vacant_is ss roads junctions ends r e target read occupied vacant =
    ap end_read (vacant ∙ ap (λ b. then_some (not b) e) occupied)
    ∙ unless target
    ∙ ap (λ x. cond (is_some x) none (some e)) (read ∙ sym (at_end_lem ss roads junctions ends r e))
  where
    unless : (x : code.Option Here)
        → end_read (then_some (not (options.is_some x)) e) ≡ cond (is_some (target_read x)) none (some e)
    unless code.None = refl
    unless (code.Some x) = refl

-- the ends at which a road meets a junction
module _ (ss roads junctions ends : List ℕ) (r : ℕ) (same : Span → Span → Bool) (j : Span) where
  pub meets_is : meets same j (road_now ss roads junctions ends r)
      ≡ names_junction same j (target_now roads junctions ends r false) || names_junction same j
      (target_now roads junctions ends r true)
  unfolding meets road_now
  meets_is = refl

  pub meeting_is : meeting_end same j (road_now ss roads junctions ends r)
      ≡ cond (names_junction same j (target_now roads junctions ends r true)) (some true)
      (cond (names_junction same j (target_now roads junctions ends r false)) (some false) none)
  unfolding meeting_end road_now
  meeting_is = refl

-- ---- a row's first name
pub name_first : (w : ℕ) (ws : List ℕ) (r : ℕ) → name_from ws (r * w) ≡ name_at w 0 ws r
name_first w ws r = ap (name_from ws) (sym (add-zero (r * w)))

-- ---- a connection's words
module _ (ps cs : List ℕ) (c : ℕ) where
  pub incoming_is : (connection_at ps cs c).incoming ≡ name_at 7 0 cs c
  unfolding connection_at connection_in
  incoming_is = name_at_lem 7 0 cs c

  pub connecting_is : (connection_at ps cs c).connecting ≡ name_at 7 2 cs c
  unfolding connection_at connection_in
  connecting_is = name_at_lem 7 2 cs c

  pub contact_is : (connection_at ps cs c).contact ≡ flag (get_or cs (c * 7 + 4) 0)
  unfolding connection_at connection_in
  contact_is = ap (λ (x : ℕ). flag x) (get_or-drop (c * 7) cs 4 0)

pub bit_back : (x : ℕ) → eqb (bit (eqb x 1)) 1 ≡ eqb x 1
bit_back x = flag_bit (eqb x 1)

pub end_bit : (e : ℕ) → e ≤ 1 → bit (eqb e 1) ≡ e
end_bit zero h = refl
end_bit (suc zero) h = refl
end_bit (suc (suc e)) h = absurd (omega arith)
