-- Before turn i the lanes below i are written, reversed.
use Prim.Native.Nat.{◌/◌}
use lib.ListN.{length}
use Rattle.reversal.specs.Turned.{reversed_lane}
use Rattle.reversal.proofs.Writers.{Wrote}
use Rattle.reversal.proofs.lanes.put_lanes.Given as goal

abbrev pub invariant-loop-i : goal.invariant-loop-i
invariant-loop-i l =
    let k = l.owned in
    let t = k.turning in
    Wrote (length k.lanes.now / 10) (reversed_lane t.roads.text.now t.roads.rows.now t.sections.sections.now t.marks.now
    k.lanes.now k.owner.now) l.initial.out l.i l.out
