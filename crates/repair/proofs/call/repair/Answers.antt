use Rattle.std.proofs.Common.{◌∙◌, arith}
use Rattle.std.proofs.lemmas.Result.{err_from_is_err_and}
use Rattle.model.specs.Calls.{repair_call, repair_content, repair_rules, repair_writing}
use Rattle.model.specs.Tables.{Tables}
use Rattle.tables.proofs.Called.{call_admitted, call_refused}
use Rattle.words.specs.Map.{map_read}
use Rattle.repair.specs.Answers.{outputs_of}
use Rattle.repair.proofs.CallLaws.{ready}
use Rattle.repair.proofs.call.repair.Goals as goal

pub returns-in_err-repair_verdict-clause-outcome : goal.returns-in_err-repair_verdict-clause-outcome
unfolding repair_call
returns-in_err-repair_verdict-clause-outcome c =
    let t : Tables = map_read c.args.map.now in
    let p = err_from_is_err_and c.from_residual.result c.from_residual.ensures.1 in
    rw (p.1, p.2) (call_refused repair_writing (repair_rules t) (repair_content t) (outputs_of c.args.out.now) _
    c.in_err-repair_verdict.ensures.refusal)

pub over-roads-requires : goal.over-roads-requires
over-roads-requires c =
    let known = ready (map_read c.args.map.now) c.in_ok-repair_verdict.ensures.refusal in
    (omega arith, ((omega arith, omega arith, known.few_roads), c.in_ok-repair_verdict.ensures.chained))

pub mend-requires-clause-ready : goal.mend-requires-clause-ready
mend-requires-clause-ready c = ready (map_read c.args.map.now) c.in_ok-repair_verdict.ensures.refusal

pub returns-clause-outcome : goal.returns-clause-outcome
unfolding repair_call
returns-clause-outcome c =
    let t : Tables = map_read c.args.map.now in
    c.mend.ensures.outcome
    ∙ call_admitted repair_writing (repair_rules t) (repair_content t) (outputs_of c.args.out.now)
    c.in_ok-repair_verdict.ensures.refusal
