-- The call's refusals in their order, and what an admission says.
use Prim.Native.Nat.{ℕ, ◌*◌, ◌/◌, ◌%◌, ◌≤◌}
use mathlib.Core.Path.{◌≡◌, sym, ap, ◌∙◌}
use mathlib.Core.List.{List, [], ◌∷◌, ◌++◌}
use mathlib.Core.Bool.{true, false, ◌&&◌}
use mathlib.Core.Option.{Option, none}
use native.Mathlib.Omega.{arith}
use lib.Dec.{eqb, leb}
use lib.ListN.{length, take, take-append-drop}
use borrow.Author.Tests.{eqb-true, leb-true, not-true}
use Rattle.laws.proofs.RulesReversed.{unbroken_append}
use Rattle.model.specs.Calls.{gap_rules, lane_rules, rules_to5}
use Rattle.model.specs.Rules.{Rule, edges_even, edges_sized, first_broken, lanes_sized, lists_fit, lists_sized}
use Rattle.model.specs.Rules.{map_sized}
use Rattle.model.specs.Rules.{rule, sized}
use Rattle.model.specs.Tables.{Tables}
use Rattle.words.specs.Keys.{id_before}
use Rattle.words.specs.Rows.{any}
use Rattle.words.proofs.Scans.{left_on, right_on}
use Rattle.rules.proofs.Counts.{lanes_few}
use Rattle.rules.proofs.Forms.{identities_once_lem}
use Rattle.tables.proofs.Order.{first_stays, passes_at, then_first}
use Rattle.gaps.specs.Links.{lists_right}

-- what an admission by the first nine rules says
pub record Kept (t : Tables) (ids : List ℕ) : Type 0 where
  pub few : length t.lanes / 10 ≤ 16384
  pub short : length ids ≤ 131072
  pub even : length t.edges ≡ 12 * (length t.lanes / 10)
  pub once : any (length t.lanes / 10) (id_before t.lanes) ≡ false

module _ (t : Tables) (offsets ids : List ℕ) where
  -- 1 to 8 and 10; and 11
  abbrev pub first_nine : List Rule
  first_nine = take 9 (gap_rules t offsets ids)

  abbrev pub last : List Rule
  last = rule 11 (lists_right t.lanes offsets ids) ∷ []

  gap_split : first_nine ++ last ≡ gap_rules t offsets ids
  unfolding gap_rules rules_to5 lane_rules lists_fit
  gap_split = take-append-drop 9 (gap_rules t offsets ids)

  -- a refusal by the first nine stays
  pub gap_early : (o : Option ℕ) → (o ≡ none → ⊥) → o ≡ first_broken first_nine
      → o ≡ first_broken (gap_rules t offsets ids)
  gap_early o Some-number e = first_stays first_nine last o Some-number e ∙ ap first_broken gap_split

  -- where they pass, 11 decides
  pub gap_later : {o : Option ℕ} → none ≡ first_broken first_nine → o ≡ first_broken last
      → o ≡ first_broken (gap_rules t offsets ids)
  gap_later pass e = then_first first_nine last pass e ∙ ap first_broken gap_split

  -- ---- what an admission says
  pub gap_kept : none ≡ first_broken first_nine → Kept t ids
  unfolding gap_rules rules_to5 lane_rules edges_even lists_sized sized
  gap_kept pass =
      let map-and-lanes = map_sized 16384 t && lanes_sized t in
      let sizes = passes_at 0 first_nine pass in
      let tables-sized = left_on (map-and-lanes && edges_sized t) (lists_sized offsets ids) sizes in
      let lists_sized_lem = right_on (map-and-lanes && edges_sized t) (lists_sized offsets ids) sizes in
      let lanes-sized = right_on (map_sized 16384 t) (lanes_sized t)
      (left_on map-and-lanes (edges_sized t) tables-sized) in
      let ids-sized = right_on (sized 1 16385 (length offsets)) (sized 1 131072 (length ids)) lists_sized_lem in
      let low = leb-true (length ids) (131072 * 1)
      (right_on (eqb (length ids % 1) 0) (leb (length ids) (131072 * 1)) ids-sized) in
      record {
        few = lanes_few t lanes-sized;
        short = omega arith;
        even = eqb-true (length t.edges) (12 * (length t.lanes / 10)) (passes_at 8 first_nine pass);
        once = not-true (any (length t.lanes / 10) (id_before t.lanes))
            (sym (identities_once_lem t.lanes) ∙ passes_at 5 first_nine pass);
      }

  -- no refusal, so none on the tables, and the lists are right
  pub gap_through : none ≡ first_broken (gap_rules t offsets ids)
      → (none ≡ first_broken first_nine) × (lists_right t.lanes offsets ids ≡ true)
  gap_through pass =
      let parts = unbroken_append first_nine last (ap first_broken gap_split ∙ sym pass) in
      (sym parts.0, passes_at 0 last (sym parts.1))
