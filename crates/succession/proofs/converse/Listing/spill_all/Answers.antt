use Rattle.succession.proofs.Spreads.{spread_all, spread_more, spread_none, spread_room}
use lib.ListN.{length}
use Prim.Native.Nat.{◌/◌}
use native.Mathlib.Omega.{arith}
use mathlib.Core.Path.{◌≡◌, refl}
use Rattle.succession.proofs.converse.Listing.spill_all.Goals as goal

pub loop-a-init : goal.loop-a-init
loop-a-init c = spread_none _ _ _ c.requires.runs_for c.requires.by_index

pub spill_list-requires-clause-apart : goal.spill_list-requires-clause-apart
spill_list-requires-clause-apart c =
    spread_room _ _ _ c.requires.runs_for (omega arith) c.loop-a.invariant refl

pub loop-a-preserved : goal.loop-a-preserved
loop-a-preserved c =
    spread_more _ _ _ c.requires.runs_for (omega arith) c.loop-a.invariant refl c.spill_list.ensures

pub returns : goal.returns
returns c =
    let past : c.loop-a.a ≡ length c.args.self.now.lanes.lanes.now / 10 = omega arith in
    spread_all _ _ _ c.requires.runs_for (rw past at c.loop-a.invariant)
