-- AN ACCEPTED CALL breaks no rule and answers with its content's rows; and 0 IS RETURNED JUST WHERE A CALL WAS
-- ACCEPTED, since no rule has the number 0.
use mathlib.Core.Path.{◌≡◌, refl, ap, ◌∙◌}
use mathlib.Core.Bool.{Bool, true, false, ◌&&◌, cond}
use mathlib.Core.Option.{Option, none, some}
use mathlib.Core.List.{List, [], ◌∷◌, ◌++◌}
use Prim.Native.Nat.{ℕ, ◌/◌}
use native.Mathlib.Omega.{arith}
use lib.Dec.{ltb}
use lib.ListN.{length}
use borrow.Author.Tests.{ltb-true}
use Rattle.model.specs.Calls.{ListOutputs, RepairOutputs, ReversalOutputs, Writing, called, gap_call, gap_content}
use Rattle.model.specs.Calls.{gap_rules, gap_width, lane_rules, list_content, list_lengths, list_writing, long_enough}
use Rattle.model.specs.Calls.{mark_rules, repair_call, repair_content, repair_counts, repair_rules, repair_writing}
use Rattle.model.specs.Calls.{reversal_call, reversal_content, reversal_counts, reversal_rules, reversal_writing}
use Rattle.model.specs.Calls.{rules_to5}
use Rattle.model.specs.Calls.{settled, succession_call, succession_rules, table_rules, table_writing, wrote}
use Rattle.model.specs.Lists.{every}
use Rattle.model.specs.Reading.{RawTables}
use Rattle.model.specs.ReadingCalls.{JunctionOutputs, TargetOutputs, junction_content, junction_counts}
use Rattle.model.specs.ReadingCalls.{junction_writing}
use Rattle.model.specs.ReadingCalls.{raw_junction_rules, raw_lane_content, raw_lane_rules, read_junctions_call}
use Rattle.model.specs.ReadingCalls.{read_lanes_call, read_targets_call, target_content, target_rules, target_writing}
use Rattle.model.specs.Rules.{Rule, first_broken}
use Rattle.model.specs.Tables.{Tables}
use Rattle.laws.proofs.ListTests.{every_append}
use Rattle.laws.proofs.RulesReversed.{unbroken_append}
use Rattle.words.proofs.Scans.{left_on, right_on}
use Rattle.vorzhyket.specs.Exported.{exported}

-- ---- numbers of rules
pub above_zero : Rule → Bool
above_zero r = ltb 0 r.number

-- a number that is refused by is above 0
refusal_above : (rs : List Rule) → every above_zero rs ≡ true → (k : ℕ) → first_broken rs ≡ some k → k ≡ 0 → ⊥
unfolding above_zero
refusal_above [] h k e z = let y : ◌≡◌ {A = ℕ} 0 1 = cc in omega arith
refusal_above (r ∷ rs) h k e z =
    go r.passes e (refusal_above rs (right_on (ltb 0 r.number) (every above_zero rs) h) k)
  where
    go : (b : Bool) → cond b (first_broken rs) (some r.number) ≡ some k → (first_broken rs ≡ some k → k ≡ 0 → ⊥) → ⊥
    go true e ih = ih e z
    go false e ih =
        let number : r.number ≡ k = cc in
        omega (arith, ltb-true 0 r.number (left_on (ltb 0 r.number) (every above_zero rs) h))

-- ---- any call
module _ {O : Type 0} (w : Writing O) (rules : List Rule) (content outs : O) where
  abbrev all_rules : List Rule
  all_rules = rules ++ long_enough (w.lengths content) (w.lengths outs)

  -- it wrote these rows: then no rule is broken, and they are the content's
  pub accepted : {rows : List ℕ} → wrote rows ≡ (called w rules content outs).answer
      → (first_broken rules ≡ none) × (rows ≡ w.rows content)
  accepted {rows} e =
      let o = by_refusal (first_broken all_rules) e in
      ((unbroken_append rules (long_enough (w.lengths content) (w.lengths outs)) o.0).0, o.1)
    where
      by_refusal : (o : Option ℕ)
          → wrote rows ≡ (settled o (w.rows content) (w.put content outs) outs).answer
          → (o ≡ none) × (rows ≡ w.rows content)
      by_refusal none e = (refl, cc)
      by_refusal (some k) e = absurd (let z : ◌≡◌ {A = ℕ} 0 1 = cc in omega arith)

  -- it returned 0: then it wrote the content's rows
  pub zero_accepted : every above_zero rules ≡ true → (before : List ℕ)
      → (exported (called w rules content outs) before).0.0 ≡ 0
      → (called w rules content outs).answer ≡ wrote (w.rows content)
  unfolding above_zero
  zero_accepted above before = go (first_broken all_rules) refl
    where
      all_above : every above_zero all_rules ≡ true
      all_above =
          every_append above_zero rules (long_enough (w.lengths content) (w.lengths outs))
          ∙ ap (λ (b : Bool). b && true) above

      go : (o : Option ℕ) → first_broken all_rules ≡ o
          → (exported (settled o (w.rows content) (w.put content outs) outs) before).0.0 ≡ 0
          → (settled o (w.rows content) (w.put content outs) outs).answer ≡ wrote (w.rows content)
      go none e z = refl
      go (some k) e z = absurd (refusal_above all_rules all_above k e z)

-- ---- each call
pub repair_accepted : (t : Tables) (o : RepairOutputs) (before : List ℕ)
    → (exported (repair_call t o) before).0.0 ≡ 0 → (repair_call t o).answer ≡ wrote (repair_counts (repair_content t))
unfolding repair_call repair_rules rules_to5 above_zero
repair_accepted t o before = zero_accepted repair_writing (repair_rules t) (repair_content t) o refl before

pub succession_accepted : (t : Tables) (o : ListOutputs) (before : List ℕ)
    → (exported (succession_call t o) before).0.0 ≡ 0
    → (succession_call t o).answer ≡ wrote (list_lengths (list_content t))
unfolding succession_call succession_rules rules_to5 lane_rules above_zero
succession_accepted t o before = zero_accepted list_writing (succession_rules t) (list_content t) o refl before

pub gaps_accepted : (t : Tables) (offsets ids o before : List ℕ)
    → (exported (gap_call t offsets ids o) before).0.0 ≡ 0
    → (gap_call t offsets ids o).answer ≡ wrote (length (gap_content t offsets ids) / gap_width ∷ [])
unfolding gap_call gap_rules rules_to5 lane_rules above_zero
gaps_accepted t offsets ids o before =
    zero_accepted (table_writing gap_width) (gap_rules t offsets ids) (gap_content t offsets ids) o refl before

pub reversal_accepted : (t : Tables) (marks : List ℕ) (o : ReversalOutputs) (before : List ℕ)
    → (exported (reversal_call t marks o) before).0.0 ≡ 0
    → (reversal_call t marks o).answer ≡ wrote (reversal_counts (reversal_content t marks))
unfolding reversal_call reversal_rules table_rules mark_rules rules_to5 lane_rules above_zero
reversal_accepted t marks o before =
    zero_accepted reversal_writing (reversal_rules t marks) (reversal_content t marks) o refl before

pub targets_accepted : (text raw : List ℕ) (o : TargetOutputs) (before : List ℕ)
    → (exported (read_targets_call text raw o) before).0.0 ≡ 0
    → (read_targets_call text raw o).answer ≡ wrote (target_writing.rows (target_content text raw))
unfolding read_targets_call target_rules above_zero
targets_accepted text raw o before =
    zero_accepted target_writing (target_rules text raw) (target_content text raw) o refl before

pub lanes_accepted : (text raw o before : List ℕ) → (exported (read_lanes_call text raw o) before).0.0 ≡ 0
    → (read_lanes_call text raw o).answer ≡ wrote (length (raw_lane_content text raw) / 4 ∷ [])
unfolding read_lanes_call raw_lane_rules above_zero
lanes_accepted text raw o before =
    zero_accepted (table_writing 4) (raw_lane_rules text raw) (raw_lane_content text raw) o refl before

pub junctions_accepted : (t : RawTables) (o : JunctionOutputs) (before : List ℕ)
    → (exported (read_junctions_call t o) before).0.0 ≡ 0
    → (read_junctions_call t o).answer ≡ wrote (junction_counts (junction_content t))
unfolding read_junctions_call raw_junction_rules above_zero
junctions_accepted t o before = zero_accepted junction_writing (raw_junction_rules t) (junction_content t) o refl before
