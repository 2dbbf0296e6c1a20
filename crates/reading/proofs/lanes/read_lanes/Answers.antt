use Rattle.std.proofs.Common.{◌/◌, arith, length}
use Rattle.std.proofs.lemmas.Result.{err_from_is_err_and}
use Rattle.model.specs.Calls.{table_writing}
use Rattle.model.specs.ReadingCalls.{raw_lane_content, raw_lane_rules, read_lanes_call}
use Rattle.tables.proofs.Called.{call_refused}
use Rattle.reading.proofs.LaneLaws.{lanes_few, lanes_length}
use Rattle.reading.proofs.RowLaws.{table_short, table_written}
use Rattle.reading.proofs.lanes.read_lanes.Goals as goal

pub returns-in_err-lanes_verdict : goal.returns-in_err-lanes_verdict
unfolding read_lanes_call
returns-in_err-lanes_verdict c =
    let text = c.args.text.now in
    let raw = c.args.raw.now in
    let p = err_from_is_err_and c.from_residual.result c.from_residual.ensures.1 in
    rw (p.1, p.2) (call_refused (table_writing 4) (raw_lane_rules text raw) (raw_lane_content text raw) c.args.out.now _
    c.in_err-lanes_verdict.ensures)

pub returns-then-out-n : goal.returns-then-out-n
unfolding read_lanes_call
returns-then-out-n c =
    let text = c.args.text.now in
    let raw = c.args.raw.now in
    table_short 4 (raw_lane_rules text raw) (raw_lane_content text raw) c.args.out.now (length raw / 4)
    (lanes_length text raw) c.in_ok-lanes_verdict.ensures c.if-out-n.true

pub put_lanes-requires : goal.put_lanes-requires
put_lanes-requires c =
    (lanes_few c.args.text.now c.args.raw.now c.in_ok-lanes_verdict.ensures, omega (arith, c.if-out-n.false))

pub returns : goal.returns
unfolding read_lanes_call
returns c =
    let text = c.args.text.now in
    let raw = c.args.raw.now in
    table_written 4 (raw_lane_rules text raw) (raw_lane_content text raw) c.args.out.now (length raw / 4)
    (lanes_length text raw) c.in_ok-lanes_verdict.ensures (omega arith) (omega (arith, c.if-out-n.false))
    c.put_lanes.ensures
