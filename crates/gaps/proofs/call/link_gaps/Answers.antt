-- `link_gaps` is refused by the first nine rules, by 11, or writes its rows: the words by row numbers are the model's.
use Prim.Native.Nat.{ℕ, ◌/◌}
use mathlib.Core.List.{List}
use mathlib.Core.Option.{some}
use mathlib.Core.Path.{sym, ap, ◌∙◌}
use lib.ListN.{length}
use Rattle.laws.proofs.Basics.{no_some}
use Rattle.laws.proofs.RulesReversed.{pass_all}
use Rattle.model.specs.Calls.{gap_call, gap_content, gap_rules, gap_width, outcome, table_writing, written_or9}
use Rattle.words.specs.Map.{all_read}
use Rattle.tables.specs.Refusals.{number_of}
use Rattle.tables.proofs.Called.{call_admitted, call_refused, err_is}
use Rattle.tables.proofs.Order.{broken_at}
use Rattle.gaps.specs.Answers.{answer_of}
use Rattle.gaps.specs.Links.{lists_right, rows_below}
use Rattle.gaps.proofs.Bridge.{content_is}
use Rattle.gaps.proofs.CallLaws.{gap_early, gap_kept, gap_later, last}
use Rattle.gaps.proofs.call.link_gaps.Goals as goal

pub returns-in_err-first_verdict : goal.returns-in_err-first_verdict
unfolding gap_call
returns-in_err-first_verdict c =
    let t = all_read c.args.map.now c.args.lanes.now c.args.edges.now in
    let offsets = c.args.offsets.now in
    let ids = c.args.ids.now in
    let r = c.in_err-first_verdict.field-0.0 in
    let first = gap_early t offsets ids (some (number_of r)) (λ e. no_some (number_of r) (sym e))
    c.in_err-first_verdict.ensures in
    ap (λ q. outcome (answer_of q) c.args.out.now) (err_is c.from_residual.result r c.from_residual.ensures.1)
    ∙ call_refused (table_writing gap_width) (gap_rules t offsets ids) (gap_content t offsets ids) c.args.out.now
    (number_of r) first

pub link_ids-requires-clause-few : goal.link_ids-requires-clause-few
link_ids-requires-clause-few c =
    (gap_kept (all_read c.args.map.now c.args.lanes.now c.args.edges.now) c.args.offsets.now c.args.ids.now
    c.in_ok-first_verdict.ensures).few

pub over-by_id-requires-clause-few : goal.over-by_id-requires-clause-few
over-by_id-requires-clause-few c =
    (gap_kept (all_read c.args.map.now c.args.lanes.now c.args.edges.now) c.args.offsets.now c.args.ids.now
    c.in_ok-first_verdict.ensures).few

pub returns-then-not-fit : goal.returns-then-not-fit
unfolding gap_call
returns-then-not-fit c =
    let t = all_read c.args.map.now c.args.lanes.now c.args.edges.now in
    let offsets = c.args.offsets.now in
    let ids = c.args.ids.now in
    let wrong = ap (λ (l : List ℕ). lists_right l offsets ids) (sym c.over-by_id.ensures) ∙ sym c.fit.ensures
    ∙ c.if-not-fit.true in
    call_refused (table_writing gap_width) (gap_rules t offsets ids) (gap_content t offsets ids) c.args.out.now 11
    (gap_later t offsets ids c.in_ok-first_verdict.ensures (broken_at 0 (last t offsets ids) tt wrong))

pub over-requires-clause-few : goal.over-requires-clause-few
over-requires-clause-few c =
    let kept = gap_kept (all_read c.args.map.now c.args.lanes.now c.args.edges.now) c.args.offsets.now c.args.ids.now
    c.in_ok-first_verdict.ensures in
    (rw c.over-by_id.ensures kept.few, kept.short)

pub over-requires-clause-even : goal.over-requires-clause-even
over-requires-clause-even c =
    let kept = gap_kept (all_read c.args.map.now c.args.lanes.now c.args.edges.now) c.args.offsets.now c.args.ids.now
    c.in_ok-first_verdict.ensures in
    rw c.over-by_id.ensures kept.even

pub returns : goal.returns
unfolding gap_call
returns c =
    let t = all_read c.args.map.now c.args.lanes.now c.args.edges.now in
    let offsets = c.args.offsets.now in
    let ids = c.args.ids.now in
    let out = c.args.out.now in
    let pass = c.in_ok-first_verdict.ensures in
    let kept = gap_kept t offsets ids pass in
    let right = ap (λ (l : List ℕ). lists_right l offsets ids) (sym c.over-by_id.ensures) ∙ sym c.fit.ensures
    ∙ c.if-not-fit.false in
    let made = c.over.ensures in
    let lanes_are = made.lanes_are ∙ c.over-by_id.ensures in
    c.write_rows.ensures
    ∙ (λ j.
    written_or9 (table_writing gap_width)
    (rows_below (lanes_are j) (made.edges_are j) (made.offsets_are j) (made.ids_are j) (length (lanes_are j) / 10)) out)
    ∙ ap (λ (rows : List ℕ). written_or9 (table_writing gap_width) rows out)
    (content_is t offsets ids kept.even kept.once right)
    ∙ call_admitted (table_writing gap_width) (gap_rules t offsets ids) (gap_content t offsets ids) out
    (gap_later t offsets ids pass (sym (pass_all (last t offsets ids) (right, tt))))
