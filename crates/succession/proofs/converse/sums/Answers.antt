use Rattle.succession.proofs.Packing.{starts_more, starts_none}
use Rattle.succession.specs.Packs.{word_at}
use Rattle.words.proofs.Laws.{total_le, total_more, total_none}
use Prim.Native.Nat.{◌+◌}
use mathlib.Core.Path.{◌≡◌}
use native.Mathlib.Omega.{arith}
use Rattle.succession.proofs.converse.sums.Goals as goal

pub loop-i-init : goal.loop-i-init
loop-i-init c = (total_none _, starts_none _ _)

-- a sum of the first counts is at most that of all
pub overflow_add-at : goal.overflow_add-at
overflow_add-at c =
    let counts = word_at c.args.counts.now in
    let i = c.loop-i.i in
    let below = total_le (i + 1) c.args.n counts (omega arith) in
    omega (arith, c.loop-i.invariant.0, total_more i counts, below, c.requires.2)

pub loop-i-preserved : goal.loop-i-preserved
loop-i-preserved c = (
  omega (arith, c.loop-i.invariant.0, total_more c.loop-i.i (word_at c.args.counts.now)),
  starts_more _ _ _ _ _ c.loop-i.invariant.1 c.loop-i.invariant.0 (omega arith),
)

pub returns : goal.returns
returns c =
    let past : c.loop-i.i ≡ c.args.n = omega arith in
    starts_more _ _ _ _ _ (rw past at c.loop-i.invariant.1) (rw past at c.loop-i.invariant.0) (omega arith)
