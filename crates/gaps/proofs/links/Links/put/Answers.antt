use mathlib.Core.List.{List, ◌++◌}
use Prim.Native.Nat.{ℕ, ◌+◌, ◌≤◌}
use mathlib.Core.Path.{sym, ap, ◌∙◌}
use native.Mathlib.Omega.{arith}
use lib.ListN.{length}
use Rattle.std.proofs.Common.{rules}
use Rattle.gaps.specs.Lent.{words_at, words_below}
use Rattle.gaps.proofs.LinkLaws.{all_most, lane_turn, lanes_none, same_words}
use Rattle.gaps.proofs.Puts.{put_nothing, put_turn, tail_put, tail_size}
use Rattle.gaps.proofs.links.Links.put.Goals.{In-loop-row}
use Rattle.gaps.proofs.links.Links.put.Goals as goal

-- in a turn the output has room for the lane's rows
room : (turn : In-loop-row)
    → turn.loop-row.at + length (words_at turn.args.self.now turn.loop-row.row) ≤ length turn.loop-row.out
room turn =
    let step = lane_turn turn.args.self.now turn.loop-row.row (omega arith) in
    omega (arith, step.longer, step.within, turn.loop-row.invariant.count_is, turn.loop-row.auto.out, turn.requires)

pub loop-row-init : goal.loop-row-init
loop-row-init c = rw (sym (lanes_none c.args.self.now)) put_nothing

pub offset_bounds-out-at : goal.offset_bounds-out-at
offset_bounds-out-at c =
    let k = c.args.self.now in
    let step = lane_turn k c.loop-row.row (omega arith) in
    omega (arith, step.longer, step.within, all_most k, c.loop-row.invariant.count_is, k.short)

pub slice_bounds-put-count : goal.slice_bounds-put-count
slice_bounds-put-count c =
    let turn : In-loop-row = search in omega (arith, room turn)

pub slice_bounds-put-start : goal.slice_bounds-put-start
slice_bounds-put-start c =
    let turn : In-loop-row = search in
    let within : c.loop-row.at ≤ length c.loop-row.out = omega (arith, room turn) in
    search rules

pub put-at-requires : goal.put-at-requires
put-at-requires c =
    let turn : In-loop-row = search in
    let fits = room turn in
    let added = ap length (same_words c.lane.ensures.0 c.lane.ensures.1) in
    omega (arith, fits, added, tail_size c.loop-row.at c.loop-row.out (omega (arith, fits)))

pub overflow_add-at : goal.overflow_add-at
overflow_add-at c =
    let k = c.args.self.now in
    let step = lane_turn k c.loop-row.row (omega arith) in
    let added = ap length (same_words c.lane.ensures.0 c.lane.ensures.1) in
    omega (
      arith,
      step.longer,
      step.within,
      all_most k,
      c.loop-row.invariant.count_is,
      c.put-at.ensures.count_is,
      added,
      k.short,
    )

pub loop-row-preserved : goal.loop-row-preserved
loop-row-preserved c =
    let step = lane_turn c.args.self.now c.loop-row.row (omega arith) in
    let turn : In-loop-row = search in
    let same = same_words c.lane.ensures.0 c.lane.ensures.1 in
    let below = words_below c.args.self.now c.loop-row.row in
    put_turn _ (step.more ∙ ap (λ (ws : List ℕ). below ++ ws) (sym same)) (omega (arith, step.within, c.requires))
    c.loop-row.invariant
    (tail_put c.loop-row.at c.loop-row.out (omega (arith, room turn)) _ c.put-at.ensures.words_are)
    (ap (λ n. c.loop-row.at + n) c.put-at.ensures.count_is)
