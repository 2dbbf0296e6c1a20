-- What the list asks for has room, so the run of the lane found has room for one more.
use Rattle.succession.proofs.Places.{tail_put, tail_run, tail_size}
use Rattle.succession.proofs.Spills.{put_none, put_one, run_next, run_rises, run_room, spilled_none, spilled_same}
use Rattle.succession.proofs.Spills.{times_all}
use Rattle.succession.specs.Runs.{Rising}
use Rattle.words.specs.Chain.{stored}
use lib.ListN.{length, get_or}
use Prim.Native.Nat.{◌+◌, ◌≤◌}
use native.Mathlib.Omega.{arith}
use mathlib.Core.Path.{refl, sym, ap, subst}
use Rattle.succession.proofs.converse.Listing.spill_list.Goals.{in-Some, in_default}
use Rattle.succession.proofs.converse.Listing.spill_list.Goals as goal

pub loop-id-init : goal.loop-id-init
loop-id-init c = spilled_none (λ r lr. refl)

pub slice_bounds-put_in-count : goal.slice_bounds-put_in-count
slice_bounds-put_in-count c =
    let lanes = c.args.self.now.lanes.lanes.now in
    let list = c.list-id-items.result.now in
    let apart = rw (← c.list-id-items.ensures) at c.requires.apart in
    omega (
      arith,
      run_room lanes list c.args.self.now.once (omega arith) c.row_of.ensures.found apart c.loop-id.invariant
          (ap stored c.in-Some.is),
    )

pub slice_bounds-put_in-start : goal.slice_bounds-put_in-start
slice_bounds-put_in-start c =
    let lanes = c.args.self.now.lanes.lanes.now in
    let list = c.list-id-items.result.now in
    let apart = rw (← c.list-id-items.ensures) at c.requires.apart in
    omega (
      arith,
      run_room lanes list c.args.self.now.once (omega arith) c.row_of.ensures.found apart c.loop-id.invariant
          (ap stored c.in-Some.is),
    )

pub put_in-requires : goal.put_in-requires
put_in-requires c =
    let once = c.args.self.now.once in
    let lanes = c.args.self.now.lanes.lanes.now in
    let list = c.list-id-items.result.now in
    let apart = rw (← c.list-id-items.ensures) at c.requires.apart in
    let there = ap stored c.in-Some.is in
    let out = c.loop-id.out in
    let room = run_room lanes list once (omega arith) c.row_of.ensures.found apart c.loop-id.invariant there in
    let rises = run_rises lanes list once (omega arith) c.row_of.ensures.found apart c.loop-id.invariant there in
    let inside : get_or c.args.offsets.now c.in-Some.r 0 ≤ length out = omega (arith, room) in (
      subst Rising (sym (tail_run _ out inside _ _ _ refl refl)) rises,
      omega (arith, tail_size _ out inside, room),
    )

pub overflow_add-used : goal.overflow_add-used
overflow_add-used c =
    let lanes = c.args.self.now.lanes.lanes.now in
    let list = c.list-id-items.result.now in
    let apart = rw (← c.list-id-items.ensures) at c.requires.apart in
    omega (
      arith,
      run_next lanes list c.args.self.now.once (omega arith) c.row_of.ensures.found apart c.loop-id.invariant
          (ap stored c.in-Some.is),
      c.type_inv.offsets (c.in-Some.r + 1),
    )

pub loop-id-preserved : goal.loop-id-preserved
loop-id-preserved c =
    let once = c.args.self.now.once in
    let lanes = c.args.self.now.lanes.lanes.now in
    let list = c.list-id-items.result.now in
    let apart = rw (← c.list-id-items.ensures) at c.requires.apart in
    let out = c.loop-id.out in
    elim c.match-row_of.branch [
      | in-Some w ↦
          let there = ap stored w.in-Some.is in
          let room = run_room lanes list once (omega arith) c.row_of.ensures.found apart c.loop-id.invariant there in
          let inside : get_or c.args.offsets.now w.in-Some.r 0 ≤ length out = omega (arith, room) in
          rw (w.used-is, w.out-is)
          (put_one lanes list once (omega arith) c.row_of.ensures.found apart c.loop-id.invariant there
          (tail_put _ out inside _ _ _ refl refl _ _ w.put_in.ensures))
      | in_default w ↦
          rw (w.used-is, w.out-is)
          (put_none lanes list once (omega arith) c.row_of.ensures.found apart c.loop-id.invariant
          (ap stored w.in_default.is))
    ]

pub returns : goal.returns
returns c =
    let all : length c.list-id-items.result.now ≤ c.loop-id.id-index = omega arith in
    rw (← c.list-id-items.ensures)
    (spilled_same c.loop-id.invariant (λ r lr. times_all c.args.self.now.lanes.lanes.now _ _ r all))
