-- Before turn i the pairs of the connections below i are written, reversed.
use Prim.Native.Nat.{◌/◌}
use lib.ListN.{length}
use Rattle.reversal.specs.Turned.{turned_pairs}
use Rattle.reversal.proofs.Writers.{Wrote}
use Rattle.reversal.proofs.links.put_pairs.Given as goal

abbrev pub invariant-loop-i : goal.invariant-loop-i
invariant-loop-i l =
    let t = l.turning in
    Wrote (length l.connections / 7)
    (turned_pairs t.roads.text.now t.roads.rows.now t.marks.now l.connections l.pairs) l.initial.out l.i l.out
