-- Names by rows: the road that a name finds, and its mark.
use Prim.Native.Nat.{ℕ, zero, suc, ◌/◌, ◌<◌, ◌≤◌}
use mathlib.Core.Bool.{Bool, true, false, cond, true≢false}
use mathlib.Core.List.{List, [], ◌∷◌}
use mathlib.Core.Option.{none, some}
use mathlib.Core.Path.{◌≡◌, refl, sym, ap, ◌∙◌, subst}
use native.Mathlib.Nat.{le_of_suc-le-suc, not-suc-le-zero, lt_trans}
use native.Mathlib.Omega.{arith}
use lib.Dec.{eqb}
use lib.ListN.{length, get_or}
use Rattle.model.specs.Lists.{first}
use Rattle.model.specs.Records.{Road, Span}
use Rattle.model.specs.Repair.{road_of}
use Rattle.model.specs.Reversal.{marked}
use Rattle.model.specs.Tables.{road_in, roads_in}
use Rattle.model.specs.Text.{bytes_of, same_in}
use Rattle.laws.proofs.Held.{marked_known}
use Rattle.words.specs.Keys.{bears, name_before}
use Rattle.words.specs.Rows.{any, from, name_at}
use Rattle.words.proofs.Chains.{last_any, last_has, last_le}
use Rattle.words.proofs.KeyLaws.{equal_refl}
use Rattle.words.proofs.Laws.{any_at, tab_at, tab_length}
use Rattle.rules.specs.ByRow.{road_row_of}
use Rattle.rules.proofs.Forms.{first_last, first_none, last_same, name_at_lem, roads_tab, two_alike}
use Rattle.reversal.specs.Turned.{mark_at, mark_of}

-- the mark of the first road of a name
marked_first : (same : Span → Span → Bool) (rs : List Road) (ks : List ℕ) (n : Span) (d : Road) (i : ℕ)
    → length ks ≡ length rs → i < length rs → same (get_or rs i d).name n ≡ true
    → ((j : ℕ) → j < i → same (get_or rs j d).name n ≡ false) → marked same rs ks n ≡ eqb (get_or ks i 0) 1
marked_first same [] ks n d i even on hit missed = absurd (not-suc-le-zero on)
marked_first same (r ∷ rs) [] n d i even on hit missed =
    absurd (let none_left : 0 ≡ suc (length rs) = even in omega arith)
marked_first same (r ∷ rs) (k ∷ ks) n d zero even on hit missed =
    ap (λ x. cond x (eqb k 1) (marked same rs ks n)) hit
marked_first same (r ∷ rs) (k ∷ ks) n d (suc i) even on hit missed =
    let rest : length ks ≡ length rs = (let all : suc (length ks) ≡ suc (length rs) = even in omega arith) in
    ap (λ x. cond x (eqb k 1) (marked same rs ks n)) (missed 0 (let z : 0 < suc i = omega arith in z))
    ∙ marked_first same rs ks n d i rest (le_of_suc-le-suc on) hit
    (λ j l. missed (suc j) (let z : suc j < suc i = omega arith in z))

module _ (text roads sections : List ℕ) (once : any (length roads / 20) (name_before text 20 0 roads) ≡ false) where
  road : ℕ → Road
  road i = road_in sections (from 20 roads i)

  test : (n : Span) (i : ℕ) → same_in text (road i).name n ≡ bears text 20 0 roads n i
  unfolding road road_in bears
  test n i = ap (λ (m : Span). same_in text m n) (name_at_lem 20 0 roads i)

  -- no earlier road bears the name
  earlier : (n : Span) (i j : ℕ) → i < length roads / 20 → j < i → bears text 20 0 roads n i ≡ true
      → bears text 20 0 roads n j ≡ false
  unfolding name_before
  earlier n i j on less bearing = go (bears text 20 0 roads n j) refl
    where
      -- none before road i bears its name
      alone : any i (bears text 20 0 roads (name_at 20 0 roads i)) ≡ false
      alone = any_at (length roads / 20) i (λ r. any r (bears text 20 0 roads (name_at 20 0 roads r))) once on

      go : (b : Bool) → bears text 20 0 roads n j ≡ b → b ≡ false
      go false is = refl
      go true is =
          absurd (true≢false (sym (two_alike text roads n i j bearing is)
          ∙ any_at i j (bears text 20 0 roads (name_at 20 0 roads i)) alone less))

  pub road_none : (n : Span) → road_row_of text roads n ≡ 0 → road_of (same_in text) (roads_in sections roads) n ≡ none
  unfolding road_of road_row_of road
  road_none n unknown = ap (first (λ r. same_in text r.name n)) (roads_tab roads sections)
      ∙ first_none (λ r. same_in text r.name n) (length roads / 20) road
      (λ i lt.
      test n i
      ∙ any_at (length roads / 20) i (bears text 20 0 roads n)
      (last_any (length roads / 20) (bears text 20 0 roads n) unknown) lt)

  pub road_some : (n : Span) (r : ℕ) → road_row_of text roads n ≡ suc r
      → road_of (same_in text) (roads_in sections roads) n ≡ some (road_in sections (from 20 roads r))
  unfolding road_of road_row_of road
  road_some n r e = ap (first (λ r. same_in text r.name n)) (roads_tab roads sections)
      ∙ first_last (λ r. same_in text r.name n) (length roads / 20) road
      (λ i j h l q. test n j ∙ earlier n i j h l (sym (test n i) ∙ q)) r
      (last_same (length roads / 20) (λ i. same_in text (road i).name n) (bears text 20 0 roads n) (test n) ∙ e)

  module _ (marks : List ℕ) (even : length marks ≡ length roads / 20) where
    count : length (roads_in sections roads) ≡ length roads / 20
    count =
        ap length (roads_tab roads sections)
        ∙ tab_length (length roads / 20) (λ i. road_in sections (from 20 roads i))

    at : (i : ℕ) → i < length roads / 20 → get_or (roads_in sections roads) i (road 0) ≡ road i
    unfolding road
    at i h =
        ap (λ (l : List Road). get_or l i (road_in sections (from 20 roads 0))) (roads_tab roads sections)
        ∙ tab_at (length roads / 20) (λ i. road_in sections (from 20 roads i)) i
        (road_in sections (from 20 roads 0)) h

    mark_by : (n : Span) (i : ℕ) → i < length roads / 20 → bears text 20 0 roads n i ≡ true
        → marked (same_in text) (roads_in sections roads) marks n ≡ eqb (get_or marks i 0) 1
    mark_by n i on bearing =
        marked_first (same_in text) (roads_in sections roads) marks n (road 0) i (even ∙ sym count)
        (subst (λ (m : ℕ). i < m) (sym count) on) (named i on ∙ bearing)
        (λ j less. named j (lt_trans less on) ∙ earlier n i j on less bearing)
      where
        named : (j : ℕ) → j < length roads / 20
            → same_in text (get_or (roads_in sections roads) j (road 0)).name n ≡ bears text 20 0 roads n j
        named j on = ap (λ (r : Road). same_in text r.name n) (at j on) ∙ test n j

    -- the mark of a name
    pub mark_is : (n : Span) → marked (same_in text) (roads_in sections roads) marks n ≡ mark_of text roads marks n
    unfolding mark_of
    mark_is n = go (road_row_of text roads n) refl
      where
        go : (o : ℕ) → road_row_of text roads n ≡ o
            → marked (same_in text) (roads_in sections roads) marks n ≡ mark_at marks (road_row_of text roads n)
        go zero e =
            marked_known (same_in text) (roads_in sections roads) marks n (road_none n e)
            ∙ sym (ap (mark_at marks) e)
        go (suc r) e = mark_by n r (below r e) (has r e) ∙ sym (ap (mark_at marks) e)
          where
            below : (r : ℕ) → road_row_of text roads n ≡ suc r → r < length roads / 20
            below r e =
                unfold road_row_of in (let z = last_le (length roads / 20) (bears text 20 0 roads n) in
                subst (λ (m : ℕ). m ≤ length roads / 20) e z)

            has : (r : ℕ) → road_row_of text roads n ≡ suc r → bears text 20 0 roads n r ≡ true
            has r e = unfold road_row_of in last_has (length roads / 20) r (bears text 20 0 roads n) e

    -- and of road i
    pub mark_own : (i : ℕ) → i < length roads / 20
        → marked (same_in text) (roads_in sections roads) marks (road_in sections (from 20 roads i)).name
        ≡ eqb (get_or marks i 0) 1
    unfolding road
    mark_own i h = mark_by (road i).name i h (sym (test (road i).name i) ∙ self (road i).name)
      where
        self : (a : Span) → same_in text a a ≡ true
        self a = unfold same_in in equal_refl (bytes_of text a)
