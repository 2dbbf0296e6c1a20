-- The row that bears an identity is what the model's search over the lanes with their edges finds.
use Prim.Native.Nat.{ℕ, zero, suc, ◌+◌, ◌*◌, ◌/◌, ◌<◌, ◌≤◌}
use mathlib.Core.Path.{◌≡◌, refl, sym, ap, ap₂, ◌∙◌, subst}
use mathlib.Core.List.{List, [], ◌∷◌, zip_with}
use mathlib.Core.Bool.{true, false, cond}
use mathlib.Core.Option.{some}
use native.Mathlib.Nat.{add-zero, zero-add, le_of_suc-le-suc, not-suc-le-zero, le_trans}
use native.Mathlib.Omega.{arith}
use lib.Dec.{eqb}
use lib.ListN.{length, get_or, take, drop}
use lib.Seq.{get_or-drop}
use lib.Ieee.{Float}
use borrow.Author.Tests.{eqb-true}
use Rattle.model.specs.Gaps.{row_of_identity}
use Rattle.model.specs.Records.{EdgedLane, Lane}
use Rattle.model.specs.Rows.{table}
use Rattle.model.specs.Tables.{lane_in, lanes_in, with_edges}
use Rattle.words.specs.Keys.{id_before, is_id}
use Rattle.words.specs.Rows.{any, from, last_of, tab}
use Rattle.words.proofs.Chains.{last_has}
use Rattle.words.proofs.Laws.{any_at, tab_at, tab_length, zip_tab}
use Rattle.words.proofs.Scans.{table_tab}
use Rattle.rules.proofs.Forms.{lanes_tab}
use Rattle.tables.specs.Found.{edged_at}

-- ---- lanes with their edges, by rows
edged : Lane → List Float → EdgedLane
edged l e = record { lane = l; at_start = take 6 e; at_end = drop 6 e }

with_zip : (ls : List Lane) (es : List (List Float)) → with_edges ls es ≡ zip_with edged ls es
unfolding zip_with edged
with_zip [] [] = refl
with_zip [] (e ∷ es) = refl
with_zip (l ∷ ls) [] = refl
with_zip (l ∷ ls) (e ∷ es) = ap (λ xs. edged l e ∷ xs) (with_zip ls es)

pub lanes_are : (lanes : List ℕ) (edges : List Float) → length edges ≡ 12 * (length lanes / 10)
    → with_edges (lanes_in lanes) (table 12 edges) ≡ tab (length lanes / 10) (edged_at lanes edges)
unfolding lanes_in edged_at edged
lanes_are lanes edges even =
    let n = length lanes / 10 in
    let row : ℕ → List Float = λ i. take 12 (drop (i * 12) edges) in
    let count : length edges / 12 ≡ n = omega arith in
    ap₂ with_edges (lanes_tab lanes) (table_tab 12 edges ∙ ap (λ (m : ℕ). tab m row) count)
    ∙ with_zip (tab n (λ i. lane_in (from 10 lanes i))) (tab n row)
    ∙ zip_tab edged n (λ i. lane_in (from 10 lanes i)) row

identity_is : (lanes : List ℕ) (edges : List Float) (i : ℕ)
    → (edged_at lanes edges i).lane.identity ≡ get_or lanes (i * 10) 0
unfolding edged_at lane_in
identity_is lanes edges i = get_or-drop (i * 10) lanes 0 0 ∙ ap (λ (m : ℕ). get_or lanes m 0) (add-zero (i * 10))

-- ---- the search: row r bears identity k, and none before it does
module _ (d : EdgedLane) (k : ℕ) where
  row_at : (i : ℕ) (xs : List EdgedLane) (r : ℕ) → r < length xs → eqb (get_or xs r d).lane.identity k ≡ true
      → ((j : ℕ) → j < r → eqb (get_or xs j d).lane.identity k ≡ false)
      → row_of_identity k i xs ≡ some (i + r, get_or xs r d)
  row_at i [] r in_List bears before = absurd (not-suc-le-zero in_List)
  row_at i (x ∷ xs) zero in_List bears before =
      ap (λ b. cond b (some (i, x)) (row_of_identity k (suc i) xs)) bears
      ∙ ap (λ (m : ℕ). some (m, x)) (sym (add-zero i))
  row_at i (x ∷ xs) (suc r) in_List bears before =
      let not_first = before 0 (let some_row : 0 < suc r = omega arith in some_row) in
      let place : suc i + r ≡ i + suc r = omega arith in
      ap (λ b. cond b (some (i, x)) (row_of_identity k (suc i) xs)) not_first
      ∙ row_at (suc i) xs r (le_of_suc-le-suc in_List) bears
      (λ j below. before (suc j) (let next : suc j < suc r = omega arith in next))
      ∙ ap (λ (m : ℕ). some (m, get_or xs r d)) place

module _ (lanes : List ℕ) (edges : List Float) (once : any (length lanes / 10) (id_before lanes) ≡ false) where
  unfoldable pub all : List EdgedLane
  all = tab (length lanes / 10) (edged_at lanes edges)

  none_before : (k r j : ℕ) → r < length lanes / 10 → is_id lanes k r ≡ true → j < r → is_id lanes k j ≡ false
  unfolding is_id id_before
  none_before k r j in_table bears below =
      let unmet =
      any_at (length lanes / 10) r (λ p. any p (λ q. eqb (get_or lanes (q * 10) 0) (get_or lanes (p * 10) 0)))
      once in_table in
      subst (λ (m : ℕ). eqb (get_or lanes (j * 10) 0) m ≡ false) (eqb-true (get_or lanes (r * 10) 0) k bears)
      (any_at r j (λ q. eqb (get_or lanes (q * 10) 0) (get_or lanes (r * 10) 0)) unmet below)

  test : (k j : ℕ) → j < length lanes / 10
      → eqb (get_or all j (edged_at lanes edges 0)).lane.identity k ≡ is_id lanes k j
  unfolding all is_id
  test k j in_table =
      ap (λ (x : EdgedLane). eqb x.lane.identity k)
      (tab_at (length lanes / 10) (edged_at lanes edges) j (edged_at lanes edges 0) in_table)
      ∙ ap (λ (m : ℕ). eqb m k) (identity_is lanes edges j)

  count : length all ≡ length lanes / 10
  unfolding all
  count = tab_length (length lanes / 10) (edged_at lanes edges)

  -- THE LANE OF AN IDENTITY
  pub row_is : (k r : ℕ) → last_of (length lanes / 10) (is_id lanes k) ≡ suc r → suc r ≤ length lanes / 10
      → row_of_identity k 0 all ≡ some (r, edged_at lanes edges r)
  unfolding all
  row_is k r last in_table =
      let bears = last_has (length lanes / 10) r (is_id lanes k) last in
      let up_to : r ≤ length lanes / 10 = omega arith in
      row_at (edged_at lanes edges 0) k 0 all r (subst (λ (m : ℕ). r < m) (sym count) in_table)
      (test k r in_table ∙ bears)
      (λ j below. test k j (le_trans below up_to) ∙ none_before k r j in_table bears below)
      ∙ ap₂ (λ (m : ℕ) (x : EdgedLane). some (m, x)) (zero-add r)
      (tab_at (length lanes / 10) (edged_at lanes edges) r (edged_at lanes edges 0) in_table)
