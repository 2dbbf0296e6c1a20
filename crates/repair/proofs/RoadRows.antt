-- The road of a name, by its row; and the roads with one end changed.
use mathlib.Core.Path.{◌≡◌, refl, sym, ap, ◌∙◌}
use mathlib.Core.Bool.{Bool, true, false, cond, true≢false}
use mathlib.Core.Option.{Option, none, some}
use mathlib.Core.List.{List, [], ◌∷◌}
use Prim.Native.Nat.{ℕ, zero, suc, ◌+◌, ◌*◌, ◌/◌, ◌<◌}
use native.Mathlib.Nat.{not-suc-le-zero, le_of_suc-le-suc}
use native.Mathlib.Omega.{arith}
use lib.ListN.{length, get_or, set, length-set}
use lib.Seq.{get_or-set_same, get_or-set_other, ext_get_or}
use lib.Dec.{eqb}
use borrow.Author.Tests.{eqb-false, eqb-true}
use Rattle.model.specs.Calls.{row_named}
use Rattle.model.specs.Lists.{pick, amend}
use Rattle.model.specs.Records.{Span, Road}
use Rattle.model.specs.Repair.{linked, put_target, road_of}
use Rattle.model.specs.Rows.{part, word}
use Rattle.model.specs.Tables.{bit, span_in, name_in, target_in}
use Rattle.model.specs.Text.{same_in}
use Rattle.words.specs.Keys.{bears, name_before}
use Rattle.words.specs.Rows.{any, last_of, name_at, tab, from}
use Rattle.words.proofs.Chains.{last_any, last_has, last_le}
use Rattle.words.proofs.Laws.{any_at, tab_at, tab_length}
use Rattle.rules.proofs.Forms.{first_none, first_last, last_same, name_at_lem, two_alike}
use Rattle.repair.specs.Now.{end_now, target_now, road_now}

-- the road that a row plus 1 stands for
abbrev pub found_road : (ℕ → Road) → ℕ → Option Road
found_road F zero = none
found_road F (suc r) = some (F r)

-- ---- the first that passes, changed; and its row
module _ {A : Type 0} (p : A → Bool) (d : A) where
  amend_at : (g : A → A) (xs : List A) (r : ℕ) → r < length xs → p (get_or xs r d) ≡ true
      → ((i : ℕ) → i < r → p (get_or xs i d) ≡ false) → amend p g xs ≡ set xs r (g (get_or xs r d))
  amend_at g [] r inside passes others = absurd (not-suc-le-zero inside)
  amend_at g (x ∷ xs) zero inside passes others = ap (λ b. cond b (g x ∷ xs) (x ∷ amend p g xs)) passes
  amend_at g (x ∷ xs) (suc r) inside passes others =
      ap (λ b. cond b (g x ∷ xs) (x ∷ amend p g xs)) (others 0 (omega arith))
      ∙ ap {B = List A} (λ l. x ∷ l)
      (amend_at g xs r (le_of_suc-le-suc inside) passes (λ i less. others (suc i) (omega arith)))

-- one row of a list by rows changed
set_tab : {A : Type 0} (n : ℕ) (F G : ℕ → A) (r : ℕ) (v : A) → r < n → v ≡ G r
    → ((i : ℕ) → (i ≡ r → ⊥) → F i ≡ G i) → set (tab n F) r v ≡ tab n G
set_tab n F G r v inside here others =
    ext_get_or v (set (tab n F) r v) (tab n G) (length-set (tab n F) r v ∙ tab_length n F ∙ sym (tab_length n G))
    go
  where
    go : (i : ℕ) → i < length (set (tab n F) r v) → get_or (set (tab n F) r v) i v ≡ get_or (tab n G) i v
    go i less =
        let long = length-set (tab n F) r v ∙ tab_length n F in
        let row : i < n = omega arith in pick_one_lem (eqb i r) refl row
      where
        pick_one_lem : (b : Bool) → eqb i r ≡ b → i < n → get_or (set (tab n F) r v) i v ≡ get_or (tab n G) i v
        pick_one_lem true same row =
            let is-r = eqb-true i r same in
            ap (λ (k : ℕ). get_or (set (tab n F) r v) k v) is-r
            ∙ get_or-set_same (tab n F) r v v (let long = tab_length n F in omega arith)
            ∙ here
            ∙ sym (tab_at n G r v inside)
            ∙ ap (λ (k : ℕ). get_or (tab n G) k v) (sym is-r)
        pick_one_lem false same row =
            let other = eqb-false i r same in
            get_or-set_other (tab n F) r i v v other ∙ tab_at n F i v row ∙ others i other ∙ sym (tab_at n G i v row)

-- the row of the only road of a name
row_at : (alike : Span → Span → Bool) (rs : List Road) (m : Span) (d : Road) (r : ℕ) → r < length rs
    → alike (get_or rs r d).name m ≡ true → ((i : ℕ) → i < r → alike (get_or rs i d).name m ≡ false)
    → row_named alike rs m ≡ r
row_at alike [] m d r inside passes others = absurd (not-suc-le-zero inside)
row_at alike (x ∷ rs) m d zero inside passes others = ap (λ b. cond b 0 (suc (row_named alike rs m))) passes
row_at alike (x ∷ rs) m d (suc r) inside passes others =
    ap (λ b. cond b 0 (suc (row_named alike rs m))) (others 0 (omega arith))
    ∙ ap suc (row_at alike rs m d r (le_of_suc-le-suc inside) passes (λ i less. others (suc i) (omega arith)))

module _ (text roads : List ℕ) (m : Span) (once : any (length roads / 20) (name_before text 20 0 roads) ≡ false) where
  -- no two rows bear one name
  alone : (i j : ℕ) → i < length roads / 20 → j < i → bears text 20 0 roads m i ≡ true
      → bears text 20 0 roads m j ≡ false
  unfolding name_before
  alone i j li lj q = go (bears text 20 0 roads m j) refl
    where
      go : (b : Bool) → bears text 20 0 roads m j ≡ b → bears text 20 0 roads m j ≡ false
      go false z = z
      go true z =
          absurd (true≢false (sym (two_alike text roads m i j q z)
          ∙ any_at i j (bears text 20 0 roads (name_at 20 0 roads i))
          (any_at (length roads / 20) i (name_before text 20 0 roads) once li) lj))

  module _ (F : ℕ → Road) (named : (i : ℕ) → (F i).name ≡ name_at 20 0 roads i) where
    test : (i : ℕ) → same_in text (F i).name m ≡ bears text 20 0 roads m i
    unfolding bears
    test i = ap (λ (n : Span). same_in text n m) (named i)

    pub road_found : (f : ℕ) → f ≡ last_of (length roads / 20) (bears text 20 0 roads m)
        → road_of (same_in text) (tab (length roads / 20) F) m ≡ found_road F f
    unfolding road_of
    road_found zero e =
        first_none (λ r. same_in text r.name m) (length roads / 20) F
        (λ i lt.
        test i
        ∙ any_at (length roads / 20) i (bears text 20 0 roads m)
        (last_any (length roads / 20) (bears text 20 0 roads m) (sym e)) lt)
    road_found (suc r) e =
        first_last (λ r. same_in text r.name m) (length roads / 20) F
        (λ i j li lj q. test j ∙ alone i j li lj (sym (test i) ∙ q)) r
        (last_same (length roads / 20) (λ i. same_in text (F i).name m) (bears text 20 0 roads m) test ∙ sym e)

    module _ (r : ℕ) (e : suc r ≡ last_of (length roads / 20) (bears text 20 0 roads m)) where
      inside : r < length roads / 20
      inside = let z = last_le (length roads / 20) (bears text 20 0 roads m) in omega arith

      hit : same_in text (F r).name m ≡ true
      hit = test r ∙ last_has (length roads / 20) r (bears text 20 0 roads m) (sym e)

      miss : (i : ℕ) → i < r → same_in text (F i).name m ≡ false
      miss i lt = test i ∙ alone r i inside lt (last_has (length roads / 20) r (bears text 20 0 roads m) (sym e))

      pub amend_row : (g : Road → Road) (G : ℕ → Road) → g (F r) ≡ G r → ((i : ℕ) → (i ≡ r → ⊥) → F i ≡ G i)
          → amend (λ x. same_in text x.name m) g (tab (length roads / 20) F) ≡ tab (length roads / 20) G
      amend_row g G h k =
          let n = length roads / 20 in
          let len = tab_length n F in
          let at : get_or (tab n F) r (F r) ≡ F r = tab_at n F r (F r) inside in
          amend_at (λ x. same_in text x.name m) (F r) g (tab n F) r (let z = inside in omega arith)
          (ap (λ (x : Road). same_in text x.name m) at ∙ hit)
          (λ i lt.
          ap (λ (x : Road). same_in text x.name m) (tab_at n F i (F r) (let z = inside in omega arith))
          ∙ miss i lt)
          ∙ ap (λ (x : Road). set (tab n F) r (g x)) at
          ∙ set_tab n F G r (g (F r)) inside h k

      pub row_found_lem : row_named (same_in text) (tab (length roads / 20) F) m ≡ r
      row_found_lem =
          let n = length roads / 20 in
          let len = tab_length n F in
          row_at (same_in text) (tab n F) m (F r) r (let z = inside in omega arith)
          (ap (λ (x : Road). same_in text x.name m) (tab_at n F r (F r) inside) ∙ hit)
          (λ i lt.
          ap (λ (x : Road). same_in text x.name m) (tab_at n F i (F r) (let z = inside in omega arith))
          ∙ miss i lt)

-- ---- the roads now
module _ (ss roads junctions ends : List ℕ) where
  pub now_name : (i : ℕ) → (road_now ss roads junctions ends i).name ≡ name_at 20 0 roads i
  unfolding road_now
  now_name i = name_at_lem 20 0 roads i

  -- one end given junction row k
  module _ (r k : ℕ) (b : Bool) (len : length ends ≡ 32768) (few : r < 16384) where
    abbrev pub ends' : List ℕ
    ends' = set ends (r * 2 + bit b) (k + 2)

    other_end : (i : ℕ) (c : Bool) → (i * 2 + bit c ≡ r * 2 + bit b → ⊥)
        → target_now roads junctions ends i c ≡ target_now roads junctions ends' i c
    unfolding target_now
    other_end i c ne =
        ap (λ (w : ℕ).
        end_now w (target_in (from 20 roads i) (pick c 4 11)) (λ k. linked (name_at 5 0 junctions k) c))
        (sym (get_or-set_other ends (r * 2 + bit b) (i * 2 + bit c) (k + 2) 0 ne))

    this_end : some (linked (name_at 5 0 junctions k) b) ≡ target_now roads junctions ends' r b
    unfolding target_now
    this_end =
        ap (λ (w : ℕ).
        end_now w (target_in (from 20 roads r) (pick b 4 11)) (λ k. linked (name_at 5 0 junctions k) b))
        (two ∙ sym (get_or-set_same ends (r * 2 + bit b) (k + 2) 0 (small b)))
      where
        small : (b : Bool) → r * 2 + bit b < length ends
        small true = omega arith
        small false = omega arith

        two : suc (suc k) ≡ k + 2
        two = omega arith

    pub other_roads : (i : ℕ) → (i ≡ r → ⊥) → road_now ss roads junctions ends i ≡ road_now ss roads junctions ends' i
    unfolding road_now
    other_roads i ne =
        λ x.
        record {
          name = span_in (from 20 roads i) 0;
          junction = name_in (from 20 roads i) 2;
          predecessor = other_end i false (apart b) x;
          successor = other_end i true (apart1 b) x;
          sections = part (word (from 20 roads i) 18) (word (from 20 roads i) 19) ss;
        }
      where
        apart : (b : Bool) → i * 2 + 0 ≡ r * 2 + bit b → ⊥
        apart true e = omega arith
        apart false e = ne (omega arith)

        apart1 : (b : Bool) → i * 2 + 1 ≡ r * 2 + bit b → ⊥
        apart1 true e = ne (omega arith)
        apart1 false e = omega arith

-- that road
pub this_road : (ss roads junctions ends : List ℕ) (r k : ℕ) (b : Bool) (len : length ends ≡ 32768)
    (few : r < 16384)
    → put_target b (linked (name_at 5 0 junctions k) b) (road_now ss roads junctions ends r)
    ≡ road_now ss roads junctions (set ends (r * 2 + bit b) (k + 2)) r
unfolding road_now put_target
this_road ss roads junctions ends r k true len few =
    λ x.
    record {
      name = span_in (from 20 roads r) 0;
      junction = name_in (from 20 roads r) 2;
      predecessor = other_end ss roads junctions ends r k true len few r false (λ e. omega arith) x;
      successor = this_end ss roads junctions ends r k true len few x;
      sections = part (word (from 20 roads r) 18) (word (from 20 roads r) 19) ss;
    }
this_road ss roads junctions ends r k false len few =
    λ x.
    record {
      name = span_in (from 20 roads r) 0;
      junction = name_in (from 20 roads r) 2;
      predecessor = this_end ss roads junctions ends r k false len few x;
      successor = other_end ss roads junctions ends r k false len few r true (λ e. omega arith) x;
      sections = part (word (from 20 roads r) 18) (word (from 20 roads r) 19) ss;
    }
