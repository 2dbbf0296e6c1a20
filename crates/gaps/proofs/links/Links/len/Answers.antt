use mathlib.Core.Path.{ap}
use native.Mathlib.Omega.{arith}
use lib.ListN.{length}
use Rattle.gaps.proofs.LinkLaws.{all_most, lane_turn, lanes_none, same_words}
use Rattle.gaps.proofs.links.Links.len.Goals as goal

pub loop-row-init : goal.loop-row-init
loop-row-init c = ap length (lanes_none c.args.self.now)

pub overflow_add-words : goal.overflow_add-words
overflow_add-words c =
    let k = c.args.self.now in
    let turn = lane_turn k c.loop-row.row (omega arith) in
    let added = ap length (same_words c.lane.ensures.0 c.lane.ensures.1) in
    omega (arith, turn.longer, turn.within, all_most k, c.loop-row.invariant, c.len-words.ensures, added, k.short)

pub loop-row-preserved : goal.loop-row-preserved
loop-row-preserved c =
    let turn = lane_turn c.args.self.now c.loop-row.row (omega arith) in
    let added = ap length (same_words c.lane.ensures.0 c.lane.ensures.1) in
    omega (arith, turn.longer, c.loop-row.invariant, c.len-words.ensures, added)
