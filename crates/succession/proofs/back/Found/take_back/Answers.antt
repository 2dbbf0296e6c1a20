use Rattle.succession.proofs.Backs.{made_left, made_put, turn_end, turn_none, turn_on, turn_rising, turn_room}
use Rattle.succession.proofs.Backs.{turn_within}
use Rattle.succession.specs.Finished.{Made}
use Rattle.model.specs.Lists.{insert}
use lib.ListN.{get_or, take}
use mathlib.Core.Bool.{cond}
use native.Mathlib.Omega.{arith}
use Rattle.succession.proofs.back.Found.take_back.Goals as goal
use Rattle.succession.proofs.back.Found.take_back.Goals.{then-wants, else-wants}

pub loop-x-init : goal.loop-x-init
loop-x-init c = turn_none c.requires

pub put_in-requires : goal.put_in-requires
put_in-requires c =
    let so_far = c.loop-x.invariant in (
      turn_rising c.requires c.loop-x.x-index so_far,
      turn_room c.requires c.loop-x.x-index so_far (omega arith) c.wants.ensures c.if-wants.true,
    )

pub overflow_add-n : goal.overflow_add-n
overflow_add-n c =
    let room =
    turn_room c.requires c.loop-x.x-index c.loop-x.invariant (omega arith) c.wants.ensures c.if-wants.true in
    omega (arith, room)

pub loop-x-preserved : goal.loop-x-preserved
loop-x-preserved c =
    let run = c.loop-x.run in
    let n = c.loop-x.n in
    let x = get_or c.args.self.now.finders.now c.loop-x.x-index 0 in
    let within = turn_within c.requires c.loop-x.x-index c.loop-x.invariant in
    let put : Made (cond c.wants.result (insert x (take n run)) (take n run)) run c.if-wants.run c.if-wants.n =
    elim c.if-wants.branch [
      | then-wants w ↦ rw (w.run-is, w.n-is) (made_put n x c.wants.result w.if-wants.true within w.put_in.ensures)
      | else-wants w ↦ rw (w.run-is, w.n-is) (made_left n x c.wants.result w.if-wants.false within)
    ] in
    turn_on c.requires c.loop-x.x-index c.loop-x.invariant (omega arith) c.wants.ensures put

pub returns : goal.returns
returns c = turn_end c.requires c.loop-x.x-index c.loop-x.invariant (omega arith)
