-- Before turn i the edges of the lanes below i are written, reversed.
use Prim.Native.Nat.{◌/◌}
use lib.ListN.{length}
use Rattle.reversal.specs.Turned.{turned_edges}
use Rattle.reversal.proofs.Writers.{Wrote}
use Rattle.reversal.proofs.lanes.put_edges.Given as goal

abbrev pub invariant-loop-i : goal.invariant-loop-i
invariant-loop-i l =
    Wrote (length l.edges / 12) (turned_edges l.owned.owner.now l.owned.turning.marks.now l.edges) l.initial.out l.i
    l.out
