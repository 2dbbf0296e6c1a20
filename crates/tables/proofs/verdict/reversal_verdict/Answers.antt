-- `reversal_verdict`: a refusal of `table_verdict` stays; without one rules 12 to 14 are asked in their order.
use Rattle.std.proofs.Common.{◌≡◌, ◌&&◌, [], ◌∷◌, ◌++◌, sym, ◌∙◌}
use Rattle.std.proofs.Math.Option.{none}
use Rattle.std.proofs.lemmas.Result.{err_from_is_err_and}
use Rattle.model.specs.Calls.{lane_rules, mark_rules, reversal_rules, rules_to5, table_rules}
use Rattle.model.specs.Rules.{edges_fit, edges_sized, first_broken, lanes_sized, lanes_worded, map_sized, map_worded}
use Rattle.model.specs.Rules.{marks_fit, rule}
use Rattle.model.specs.Tables.{Tables}
use Rattle.words.specs.Map.{all_read}
use Rattle.words.proofs.Scans.{left_on}
use Rattle.laws.proofs.RulesReversed.{pass_all}
use Rattle.rules.proofs.OneEnd.{one_ended_lem}
use Rattle.tables.proofs.Order.{Kept5, broken_at, few_junctions, kept5_more, marks_count, number_stays, then_first}
use Rattle.tables.proofs.verdict.reversal_verdict.Goals as goal

kept : (t : Tables) → none ≡ first_broken (table_rules t)
    → Kept5 (map_sized 16384 t && lanes_sized t && edges_sized t) (map_worded t && lanes_worded t) t
unfolding table_rules rules_to5
kept t first = kept5_more _ _ t (lane_rules t ++ (rule 10 (edges_fit t) ∷ [])) first

pub returns-in_err-table_verdict-clause-refusal : goal.returns-in_err-table_verdict-clause-refusal
unfolding reversal_rules
returns-in_err-table_verdict-clause-refusal c =
    let t = all_read c.args.map.now c.args.lanes.now c.args.edges.now in
    let p = err_from_is_err_and c.from_residual.result c.from_residual.ensures.1 in
    rw (p.1, p.2) (number_stays (table_rules t) (mark_rules t c.args.marks.now) _
    c.in_err-table_verdict.ensures.refusal)

pub returns-then-not-marks_fit-clause-refusal : goal.returns-then-not-marks_fit-clause-refusal
unfolding reversal_rules mark_rules marks_fit
returns-then-not-marks_fit-clause-refusal c =
    let t = all_read c.args.map.now c.args.lanes.now c.args.edges.now in
    then_first (table_rules t) (mark_rules t c.args.marks.now) c.in_ok-table_verdict.ensures.refusal
    (broken_at 0 (mark_rules t c.args.marks.now) tt (sym c.marks_fit.ensures ∙ c.if-not-marks_fit.true))

pub returns-then-not-numbers_turn-clause-refusal : goal.returns-then-not-numbers_turn-clause-refusal
unfolding reversal_rules mark_rules marks_fit
returns-then-not-numbers_turn-clause-refusal c =
    let t = all_read c.args.map.now c.args.lanes.now c.args.edges.now in
    let marked = sym c.marks_fit.ensures ∙ c.if-not-marks_fit.false in
    then_first (table_rules t) (mark_rules t c.args.marks.now) c.in_ok-table_verdict.ensures.refusal
    (broken_at 1 (mark_rules t c.args.marks.now) (marked, tt)
    (sym c.numbers_turn.ensures ∙ c.if-not-numbers_turn.true))

pub one_ended-requires-clause-few : goal.one_ended-requires-clause-few
one_ended-requires-clause-few c =
    let t = all_read c.args.map.now c.args.lanes.now c.args.edges.now in
    few_junctions t (left_on _ (edges_sized t) (kept t c.in_ok-table_verdict.ensures.refusal).sized)

pub returns-then-not-one_ended-clause-refusal : goal.returns-then-not-one_ended-clause-refusal
unfolding reversal_rules mark_rules marks_fit
returns-then-not-one_ended-clause-refusal c =
    let t = all_read c.args.map.now c.args.lanes.now c.args.edges.now in
    let first = c.in_ok-table_verdict.ensures.refusal in
    let marked = sym c.marks_fit.ensures ∙ c.if-not-marks_fit.false in
    let turn = sym c.numbers_turn.ensures ∙ c.if-not-numbers_turn.false in
    let ended = one_ended_lem _ _ _ _ _ _ _ (kept t first).once (marks_count _ _ marked) in
    then_first (table_rules t) (mark_rules t c.args.marks.now) first
    (broken_at 2 (mark_rules t c.args.marks.now) (marked, (turn, tt))
    (ended ∙ sym c.one_ended.ensures ∙ c.if-not-one_ended.true))

pub returns-clause-refusal : goal.returns-clause-refusal
unfolding reversal_rules mark_rules marks_fit
returns-clause-refusal c =
    let t = all_read c.args.map.now c.args.lanes.now c.args.edges.now in
    let first = c.in_ok-table_verdict.ensures.refusal in
    let marked = sym c.marks_fit.ensures ∙ c.if-not-marks_fit.false in
    let turn = sym c.numbers_turn.ensures ∙ c.if-not-numbers_turn.false in
    let ended = one_ended_lem _ _ _ _ _ _ _ (kept t first).once (marks_count _ _ marked) in
    then_first (table_rules t) (mark_rules t c.args.marks.now) first
    (sym (pass_all (mark_rules t c.args.marks.now)
    (marked, (turn, (ended ∙ sym c.one_ended.ensures ∙ c.if-not-one_ended.false, tt)))))
