use Rattle.succession.proofs.Spills.{counted_at, counted_none, counted_same, counted_then, only_none}
use Rattle.succession.proofs.Spills.{times_all, times_few, times_more}
use Rattle.succession.specs.Packs.{Counted, only_at}
use Rattle.words.specs.Chain.{stored}
use lib.ListN.{length}
use Prim.Native.Nat.{◌/◌, ◌<◌, ◌≤◌}
use native.Mathlib.Omega.{arith}
use mathlib.Core.Path.{refl, ap}
use Rattle.succession.proofs.converse.Listing.count_list.Goals.{in-Some, in_default}
use Rattle.succession.proofs.converse.Listing.count_list.Goals as goal

pub loop-id-init : goal.loop-id-init
loop-id-init c = counted_none (λ r lr. refl)

-- the count of the lane found can grow
pub overflow_add-counts : goal.overflow_add-counts
overflow_add-counts c =
    let lanes = c.args.self.now.lanes.lanes.now in
    let list = c.list-id-items.result.now in
    let r = c.in-Some.r in
    let so_far = c.loop-id.invariant in
    let lr : r < length lanes / 10 = omega (arith, c.in-Some.ensures.low) in
    let few = times_few lanes list c.loop-id.id-index r (omega arith) in
    omega (arith, so_far.counts r lr, c.requires.lanes_in_bounds.1 r lr, few, ap length c.list-id-items.ensures)

pub loop-id-preserved : goal.loop-id-preserved
loop-id-preserved c =
    let me = c.args.self.now in
    let lanes = me.lanes.lanes.now in
    let wide : stored c.row_of.result ≤ length c.loop-id.counts =
    omega (arith, c.row_of.ensures.low, c.loop-id.invariant.wide, c.requires.lanes_in_bounds.0) in
    let one : Counted (length lanes / 10) (only_at (stored c.row_of.result)) c.loop-id.counts c.match-row_of.counts =
    elim c.match-row_of.branch [
      | in-Some w ↦ rw w.counts-is (counted_at (ap stored w.in-Some.is) (omega (arith, ap stored w.in-Some.is, wide)))
      | in_default w ↦ rw w.counts-is (counted_none (only_none (ap stored w.in_default.is)))
    ] in
    counted_then c.loop-id.invariant one
    (times_more lanes c.list-id-items.result.now c.loop-id.id-index me.once (omega arith) c.row_of.ensures.found)

pub returns : goal.returns
returns c =
    let lanes = c.args.self.now.lanes.lanes.now in
    let all : length c.list-id-items.result.now ≤ c.loop-id.id-index = omega arith in
    rw (← c.list-id-items.ensures) (counted_same c.loop-id.invariant (λ r lr. times_all lanes _ _ r all))
