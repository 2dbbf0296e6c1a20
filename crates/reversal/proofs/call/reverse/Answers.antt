-- `reverse` is refused by its verdict or by 9, or writes: the rows by row numbers are the model's content.
use Prim.Native.Nat.{ℕ}
use mathlib.Core.Bool.{Bool}
use mathlib.Core.List.{List}
use mathlib.Core.Option.{none}
use mathlib.Core.Path.{◌≡◌, sym, ap, ◌∙◌}
use native.Mathlib.Omega.{arith}
use Rattle.laws.proofs.WordsReversed.{six_lengths}
use Rattle.model.specs.Calls.{ReversalOutputs, outcome, put_reversed, reversal_call, reversal_content}
use Rattle.model.specs.Calls.{reversal_lengths, reversal_rules, reversal_writing}
use Rattle.model.specs.Rules.{first_broken, fits}
use Rattle.model.specs.Tables.{Tables}
use Rattle.words.specs.Map.{all_read}
use Rattle.tables.specs.Refusals.{number_of}
use Rattle.tables.proofs.Called.{all_written, call_admitted, call_refused, err_is, too_short}
use Rattle.reversal.specs.Answers.{answer_of, long_enough, outputs, outputs_of}
use Rattle.reversal.specs.Turned.{reversed_tables}
use Rattle.reversal.proofs.CallLaws.{content_is, counted, enough_is, facts, kept, room_is}
use Rattle.reversal.proofs.call.reverse.Goals as goal

-- whether the outputs are long enough for what has to be written
room_for : (t : Tables) (marks : List ℕ) (outs : ReversalOutputs) → none ≡ first_broken (reversal_rules t marks)
    → {b : Bool} → b ≡ long_enough (outputs t.roads t.sections t.connections t.pairs t.lanes t.edges) outs
    → b ≡ fits (reversal_lengths (reversal_content t marks)) (reversal_lengths outs)
unfolding reversal_lengths six_lengths
room_for t marks outs clear e =
    room_is t marks clear (reversal_lengths outs)
    (e ∙ enough_is (outputs t.roads t.sections t.connections t.pairs t.lanes t.edges) outs)

pub returns-in_err-reversal_verdict-clause-outcome : goal.returns-in_err-reversal_verdict-clause-outcome
unfolding reversal_call
returns-in_err-reversal_verdict-clause-outcome c =
    let t = all_read c.args.map.now c.args.lanes.now c.args.edges.now in
    let marks = c.args.marks.now in
    let outs = outputs_of c.args.out.now in
    let r = c.in_err-reversal_verdict.field-0.0 in
    ap (λ q. outcome (answer_of q) outs) (err_is c.from_residual.result r c.from_residual.ensures.1)
    ∙ call_refused reversal_writing (reversal_rules t marks) (reversal_content t marks) outs (number_of r)
    c.in_err-reversal_verdict.ensures.refusal

pub returns-then-not-enough-clause-outcome : goal.returns-then-not-enough-clause-outcome
unfolding reversal_call
returns-then-not-enough-clause-outcome c =
    let t = all_read c.args.map.now c.args.lanes.now c.args.edges.now in
    let marks = c.args.marks.now in
    let outs = outputs_of c.args.out.now in
    let clear = c.in_ok-reversal_verdict.ensures.refusal in
    too_short reversal_writing (reversal_content t marks) outs
    (sym (room_for t marks outs clear c.enough.ensures) ∙ c.if-not-enough.true)
    ∙ call_admitted reversal_writing (reversal_rules t marks) (reversal_content t marks) outs clear

pub over-roads-requires : goal.over-roads-requires
over-roads-requires c =
    let t = all_read c.args.map.now c.args.lanes.now c.args.edges.now in
    let known = facts t c.args.marks.now c.in_ok-reversal_verdict.ensures.refusal in
    (omega arith, ((omega arith, omega arith, known.few_roads), c.in_ok-reversal_verdict.ensures.linked.named))

pub over-requires : goal.over-requires
over-requires c =
    (facts (all_read c.args.map.now c.args.lanes.now c.args.edges.now) c.args.marks.now
    c.in_ok-reversal_verdict.ensures.refusal).parts

pub over-turning-requires-clause-up : goal.over-turning-requires-clause-up
over-turning-requires-clause-up c =
    let known = facts (all_read c.args.map.now c.args.lanes.now c.args.edges.now) c.args.marks.now
    c.in_ok-reversal_verdict.ensures.refusal in
    rw (c.over-roads.ensures.1, c.over.ensures.1) known.up

pub over-turning-requires-clause-even : goal.over-turning-requires-clause-even
over-turning-requires-clause-even c =
    let known = facts (all_read c.args.map.now c.args.lanes.now c.args.edges.now) c.args.marks.now
    c.in_ok-reversal_verdict.ensures.refusal in
    rw c.over-roads.ensures.1 known.even_marks

pub over-owned-requires-clause-owned : goal.over-owned-requires-clause-owned
over-owned-requires-clause-owned c =
    let known = facts (all_read c.args.map.now c.args.lanes.now c.args.edges.now) c.args.marks.now
    c.in_ok-reversal_verdict.ensures.refusal in
    omega (arith, known.few_lanes)

pub over-owned-requires-clause-kept : goal.over-owned-requires-clause-kept
over-owned-requires-clause-kept c =
    let t = all_read c.args.map.now c.args.lanes.now c.args.edges.now in
    let marks = c.args.marks.now in
    let known = facts t marks c.in_ok-reversal_verdict.ensures.refusal in
    λ i h.
    rw (c.over-turning.ensures.roads.1 ∙ c.over-roads.ensures.1, c.over-turning.ensures.sections ∙ c.over.ensures.1)
    (kept t marks known c.in_ok-reversal_verdict.ensures.linked i h)

pub write_all-requires-clause-links : goal.write_all-requires-clause-links
write_all-requires-clause-links c =
    (facts (all_read c.args.map.now c.args.lanes.now c.args.edges.now) c.args.marks.now
    c.in_ok-reversal_verdict.ensures.refusal).links

pub write_all-requires-clause-even : goal.write_all-requires-clause-even
write_all-requires-clause-even c =
    rw c.over-owned.ensures.lanes.0 (facts (all_read c.args.map.now c.args.lanes.now c.args.edges.now) c.args.marks.now
    c.in_ok-reversal_verdict.ensures.refusal).even_edges

pub returns-clause-outcome : goal.returns-clause-outcome
unfolding reversal_call
returns-clause-outcome c =
    let map = c.args.map.now in
    let t = all_read map c.args.lanes.now c.args.edges.now in
    let marks = c.args.marks.now in
    let outs = outputs_of c.args.out.now in
    let clear = c.in_ok-reversal_verdict.ensures.refusal in
    let text = c.over-owned.ensures.roads.0 ∙ c.over-turning.ensures.roads.0 ∙ c.over-roads.ensures.0 in
    let roads = c.over-owned.ensures.roads.1 ∙ c.over-turning.ensures.roads.1 ∙ c.over-roads.ensures.1 in
    let sections = c.over-owned.ensures.turning.0 ∙ c.over-turning.ensures.sections ∙ c.over.ensures.1 in
    let by_row = c.over-owned.ensures.turning.1 ∙ c.over-turning.ensures.marks in
    let lanes = c.over-owned.ensures.lanes.0 in
    let owner = c.over-owned.ensures.lanes.1 in
    let written = c.write_all.ensures.content
    ∙ (λ j.
    put_reversed (reversed_tables (text j) (roads j) (sections j) map.connections.now map.pairs.now (lanes j)
    c.args.edges.now (by_row j) (owner j)) outs)
    ∙ ap (λ (new : ReversalOutputs). put_reversed new outs)
    (sym (content_is t marks (facts t marks clear) c.in_ok-reversal_verdict.ensures.linked)) in
    all_written reversal_writing (reversal_content t marks) outs
    (sym (room_for t marks outs clear c.enough.ensures) ∙ c.if-not-enough.false) (counted t marks clear) written
    ∙ call_admitted reversal_writing (reversal_rules t marks) (reversal_content t marks) outs clear
