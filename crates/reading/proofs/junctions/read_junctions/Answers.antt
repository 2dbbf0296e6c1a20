use Rattle.std.proofs.Common.{◌∙◌, sym}
use Rattle.std.proofs.lemmas.Result.{err_from_is_err_and}
use Rattle.model.specs.ReadingCalls.{junction_content, junction_writing, raw_junction_rules, read_junctions_call}
use Rattle.reading.specs.JunctionAnswers.{outputs_of}
use Rattle.reading.specs.Read.{tables_read}
use Rattle.tables.proofs.Called.{call_admitted, call_refused}
use Rattle.reading.proofs.CallLaws.{counted_short, counted_written}
use Rattle.reading.proofs.junctions.read_junctions.Goals as goal

pub returns-in_err-tables-clause-outcome : goal.returns-in_err-tables-clause-outcome
unfolding read_junctions_call
returns-in_err-tables-clause-outcome c =
    let t = tables_read c.args.raw.now in
    let p = err_from_is_err_and c.from_residual.result c.from_residual.ensures.1 in
    rw (p.1, p.2) (call_refused junction_writing (raw_junction_rules t) (junction_content t)
    (outputs_of c.args.out.now) _ c.in_err-tables.ensures.refusal)

pub returns-then-not-fit-clause-outcome : goal.returns-then-not-fit-clause-outcome
unfolding read_junctions_call
returns-then-not-fit-clause-outcome c =
    let t = tables_read c.args.raw.now in
    let short = sym c.fit.ensures ∙ c.if-not-fit.true in
    let lengths = rw c.in_ok-tables.ensures.same at c.count_all.ensures.lengths in
    counted_short t _ _ _ _ c.count_all.result lengths short
    ∙ call_admitted junction_writing (raw_junction_rules t) (junction_content t) (outputs_of c.args.out.now)
    c.in_ok-tables.ensures.refusal

pub returns-clause-outcome : goal.returns-clause-outcome
unfolding read_junctions_call
returns-clause-outcome c =
    let t = tables_read c.args.raw.now in
    let room = sym c.fit.ensures ∙ c.if-not-fit.false in
    let lengths = rw c.in_ok-tables.ensures.same at c.count_all.ensures.lengths in
    let read = rw c.in_ok-tables.ensures.same at c.read_all.ensures.read in
    counted_written t _ _ _ _ c.count_all.result lengths read room
    ∙ call_admitted junction_writing (raw_junction_rules t) (junction_content t) (outputs_of c.args.out.now)
    c.in_ok-tables.ensures.refusal
