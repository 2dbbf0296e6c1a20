use Rattle.succession.proofs.Packing.{start_more, start_up}
use Rattle.succession.specs.Found.{onward_of}
use Rattle.words.proofs.Laws.{total_none}
use lib.ListN.{length}
use native.Mathlib.Omega.{arith}
use mathlib.Core.Path.{◌≡◌}
use Prim.Native.Nat.{◌+◌, ◌/◌}
use Rattle.succession.proofs.back.AllFound.count.Goals as goal

pub loop-i-init : goal.loop-i-init
loop-i-init c = total_none _

pub overflow_add-at : goal.overflow_add-at
overflow_add-at c =
    let me = c.args.self.now in
    let i = c.loop-i.i in
    let one : c.count-at.result ≡ length (onward_of me i) = cc in
    let below = start_up (onward_of me) (i + 1) (length me.lanes.lanes.now / 10) (omega arith) in
    omega (arith, c.loop-i.invariant, one, start_more (onward_of me) i, below, me.few)

pub loop-i-preserved : goal.loop-i-preserved
loop-i-preserved c =
    let me = c.args.self.now in
    let one : c.count-at.result ≡ length (onward_of me c.loop-i.i) = cc in
    omega (arith, c.loop-i.invariant, one, start_more (onward_of me) c.loop-i.i)
