use native.Mathlib.Omega.{arith}
use mathlib.Core.Path.{refl, ◌∙◌}
use Rattle.reversal.specs.Turned.{pairs_turned}
use Rattle.reversal.proofs.Leaves.{pair_2, pair_is}
use Rattle.reversal.proofs.Writers.{pair_next, pairs_end, wrote_at_all, wrote_at_none, wrote_at_row}
use Rattle.reversal.proofs.links.put_part.Goals as goal

pub loop-k-init : goal.loop-k-init
loop-k-init c =
    let none = c.enumerate-k-items.ensures.count in
    let same = c.into_iter-k-iterator.ensures.into_iter_gives in
    let source = c.enumerate-k-items.ensures.source in
    rw (same, none, source, c.chunks_exact.ensures.size, c.chunks_exact.ensures.rest) (wrote_at_none, refl, refl)

pub put-requires : goal.put-requires
put-requires c =
    let steps = c.in-Some.ensures.steps in
    let pair =
    pair_next c.args.part.now c.loop-k.k-iterator.count c.in-Some.pair.now c.loop-k.invariant.2 steps.0.1.0
    (steps.0.1.1 ∙ c.loop-k.invariant.1) in
    omega (arith, pair.0, steps.1, c.requires, c.loop-k.invariant.0.as_long)

pub loop-k-preserved : goal.loop-k-preserved
loop-k-preserved c =
    let steps = c.in-Some.ensures.steps in
    let pair =
    pair_next c.args.part.now c.loop-k.k-iterator.count c.in-Some.pair.now c.loop-k.invariant.2 steps.0.1.0
    (steps.0.1.1 ∙ c.loop-k.invariant.1) in
    let from = rw pair.1 at c.signed_by-from.ensures in
    let to = rw pair.2 at c.signed_by-to.ensures in
    let put = rw steps.1 at c.put.ensures in
    rw steps.2 (
      wrote_at_row 2 (λ j. pair_2 _ _ _ _) c.loop-k.invariant.0 pair.0 (pair_is _ _ _ _ from to) refl put
          (omega (arith, pair.0, c.requires)) c.put.auto.out,
      steps.0.0 ∙ c.loop-k.invariant.1,
      pair.3,
    )

pub returns : goal.returns
unfolding pairs_turned
returns c =
    let steps = c.in-None.ensures.steps in
    wrote_at_all c.loop-k.invariant.0
    (pairs_end c.args.part.now c.loop-k.k-iterator.count c.loop-k.invariant.2 (rw c.loop-k.invariant.1 at steps.0.1.0))
