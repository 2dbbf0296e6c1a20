use Rattle.std.proofs.Common.{◌≡◌, ◌/◌, ◌<◌, List, ℕ, ◌∙◌, ap, arith, length, rules, sym}
use Rattle.model.specs.Lists.{gather}
use Rattle.model.specs.Reading.{part_rows, read_target}
use Rattle.model.specs.Rows.{written}
use Rattle.model.specs.Tables.{target_words}
use Rattle.reading.proofs.RowLaws.{row_room, rows_begin, rows_turn}
use Rattle.reading.proofs.TargetLaws.{target_at, target_seven, targets_content}
use Rattle.reading.proofs.targets.RawTargets.put_targets.Goals as goal

pub loop-i-init : goal.loop-i-init
loop-i-init c = rows_begin (target_at c.args.self.now.text.now c.args.self.now.rows.now) c.args.out.now

pub put-requires : goal.put-requires
put-requires c =
    let kept : length c.loop-i.out ≡ length c.args.out.now = search rules in
    let below : c.loop-i.i < length c.args.self.now.rows.now / 9 = omega arith in
    omega (arith, row_room 7 below c.requires)

pub loop-i-preserved : goal.loop-i-preserved
loop-i-preserved c =
    let text = c.args.self.now.text.now in
    let raw = c.args.self.now.rows.now in
    let below : c.loop-i.i < length raw / 9 = omega arith in
    let target = c.read_target-target.ensures ∙ ap (read_target text) c.row.ensures in
    rows_turn (target_at text raw) 7 c.loop-i.i c.args.out.now (target_seven text raw) c.loop-i.invariant
    (c.words.ensures ∙ ap target_words target) c.put.ensures (row_room 7 below c.requires)

pub returns : goal.returns
returns c =
    let text = c.args.self.now.text.now in
    let raw = c.args.self.now.rows.now in
    let past : c.loop-i.i ≡ length raw / 9 = omega arith in
    let rows = ap (λ (n : ℕ). gather (target_at text raw) (part_rows 0 n)) past ∙ sym (targets_content text raw) in
    c.loop-i.invariant ∙ ap (λ (content : List ℕ). written content c.args.out.now) rows
