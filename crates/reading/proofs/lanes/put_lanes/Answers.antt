use Rattle.std.proofs.Common.{◌≡◌, ◌/◌, List, ℕ, ◌∙◌, ap, arith, length, rules, sym}
use Rattle.model.specs.Lists.{gather}
use Rattle.model.specs.Reading.{part_rows, read_lane}
use Rattle.model.specs.Rows.{written}
use Rattle.reading.proofs.LaneLaws.{lane_at, lane_four, lanes_content}
use Rattle.reading.proofs.RowLaws.{row_room, rows_begin, rows_turn}
use Rattle.reading.proofs.lanes.put_lanes.Goals as goal

pub loop-i-init : goal.loop-i-init
loop-i-init c = rows_begin (lane_at c.args.text.now c.args.raw.now) c.args.out.now

pub put-requires : goal.put-requires
put-requires c =
    let kept : length c.loop-i.out ≡ length c.args.out.now = search rules in
    omega (arith, row_room 4 c.loop-i-test.true c.requires.1)

pub loop-i-preserved : goal.loop-i-preserved
loop-i-preserved c =
    let text = c.args.text.now in
    let raw = c.args.raw.now in
    let row = c.lane_row.ensures ∙ ap (read_lane text) c.row.ensures in
    rows_turn (lane_at text raw) 4 c.loop-i.i c.args.out.now (lane_four text raw) c.loop-i.invariant row c.put.ensures
    (row_room 4 c.loop-i-test.true c.requires.1)

pub returns : goal.returns
returns c =
    let text = c.args.text.now in
    let raw = c.args.raw.now in
    let past : c.loop-i.i ≡ length raw / 4 = omega arith in
    let rows = ap (λ (n : ℕ). gather (lane_at text raw) (part_rows 0 n)) past ∙ sym (lanes_content text raw) in
    c.loop-i.invariant ∙ ap (λ (content : List ℕ). written content c.args.out.now) rows
