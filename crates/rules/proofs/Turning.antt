-- 12 and 13 by row numbers.
use Prim.Native.Nat.{ℕ, ◌+◌, ◌*◌, ◌/◌, ◌<◌, ◌≤◌}
use mathlib.Core.Path.{◌≡◌, sym, ap, ◌∙◌}
use mathlib.Core.List.{List, map}
use mathlib.Core.Option.{none, some}
use mathlib.Core.Bool.{Bool, true, not, ◌&&◌, cond}
use native.Mathlib.Nat.{add-zero, add_assoc}
use native.Mathlib.Numerals.{add-one}
use lib.ListN.{length, get_or, drop, drop_of_length-le}
use lib.Seq.{get_or-drop, drop-cons}
use lib.Dec.{eqb}
use borrow.Author.Tests.{ne_eqb}
use Rattle.model.specs.Lists.{every}
use Rattle.model.specs.Rows.{table}
use Rattle.model.specs.Rules.{lane_fine, link_fine, pair_fine}
use Rattle.model.specs.Tables.{lane_in, link_of, pair_in}
use Rattle.words.specs.Rows.{all}
use Rattle.words.proofs.Scans.{Local, every_tab, map_rows}
use Rattle.rules.proofs.Forms.{lanes_tab}
use Rattle.rules.proofs.Locals.{short}

-- ---- 12
module _ (p : ℕ → Bool) (xs : List ℕ) where
  pub every_step : (i : ℕ) → i < length xs → every p (drop i xs) ≡ (p (get_or xs i 0) && every p (drop (i + 1) xs))
  every_step i h =
      ap (every p) (drop-cons xs i 0 h)
      ∙ ap (λ (m : ℕ). p (get_or xs i 0) && every p (drop m xs)) (sym (add-one i))

  pub every_end : (i : ℕ) → length xs ≤ i → every p (drop i xs) ≡ true
  every_end i h = ap (every p) (drop_of_length-le xs h)

-- ---- 13
pub link_fine_on : (f n : ℕ) {r : Bool} → f ≡ 1 → r ≡ not (eqb n 2147483648) → r ≡ link_fine (link_of f n)
link_fine_on f n e h = h ∙ rw e

pub link_fine_off : (f n : ℕ) → (f ≡ 1 → ⊥) → true ≡ link_fine (link_of f n)
link_fine_off f n h = sym (ap (λ b. link_fine (cond b (some n) none)) (ne_eqb f 1 h))

lane_in_local : Local 10 lane_in
unfolding lane_in
lane_in_local l = simp (short 10 l)

pair_in_local : Local 2 pair_in
unfolding pair_in
pair_in_local l = simp (short 2 l)

pub lane_fine_words : (lanes : List ℕ) (at : ℕ)
    → lane_fine (lane_in (drop at lanes))
    ≡ (not (eqb (get_or lanes (at + 4) 0) 2147483648)
    && link_fine (link_of (get_or lanes (at + 8) 0) (get_or lanes (at + 8 + 1) 0))
    && link_fine (link_of (get_or lanes (at + 6) 0) (get_or lanes (at + 6 + 1) 0)))
unfolding lane_fine lane_in
lane_fine_words lanes at = simp (get_or-drop at lanes, add_assoc)

pub pair_fine_words : (pairs : List ℕ) (at : ℕ)
    → pair_fine (pair_in (drop at pairs))
    ≡ (not (eqb (get_or pairs at 0) 2147483648) && not (eqb (get_or pairs (at + 1) 0) 2147483648))
unfolding pair_fine pair_in
pair_fine_words pairs at = simp (get_or-drop at pairs, add-zero)

pub lanes_fine_form : (lanes : List ℕ)
    → every lane_fine (map lane_in (table 10 lanes))
    ≡ all (length lanes / 10) (λ i. lane_fine (lane_in (drop (i * 10) lanes)))
lanes_fine_form lanes =
    ap (every lane_fine) (lanes_tab lanes)
    ∙ every_tab lane_fine (length lanes / 10) (λ i. lane_in (drop (i * 10) lanes))

pub pairs_fine_form : (pairs : List ℕ)
    → every pair_fine (map pair_in (table 2 pairs))
    ≡ all (length pairs / 2) (λ i. pair_fine (pair_in (drop (i * 2) pairs)))
pairs_fine_form pairs =
    ap (every pair_fine) (map_rows 2 pairs pair_in pair_in_local)
    ∙ every_tab pair_fine (length pairs / 2) (λ i. pair_in (drop (i * 2) pairs))
