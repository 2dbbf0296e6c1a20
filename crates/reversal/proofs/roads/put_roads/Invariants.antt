-- Before turn i the roads below i are written, reversed.
use Prim.Native.Nat.{◌/◌}
use lib.ListN.{length}
use Rattle.reversal.specs.Turned.{reversed_road}
use Rattle.reversal.proofs.Writers.{Wrote}
use Rattle.reversal.proofs.roads.put_roads.Given as goal

abbrev pub invariant-loop-road : goal.invariant-loop-road
invariant-loop-road l =
    let t = l.turning in
    Wrote (length t.roads.rows.now / 20) (reversed_road t.roads.text.now t.roads.rows.now t.marks.now) l.initial.out
    l.road l.out
