-- Before turn i the sections of the roads below i are written, reversed.
use Prim.Native.Nat.{◌/◌}
use lib.ListN.{length}
use Rattle.reversal.specs.Turned.{turned_sections}
use Rattle.reversal.proofs.Writers.{Wrote}
use Rattle.reversal.proofs.roads.put_sections.Given as goal

abbrev pub invariant-loop-road : goal.invariant-loop-road
invariant-loop-road l =
    let t = l.turning in
    Wrote (length t.roads.rows.now / 20) (turned_sections t.roads.rows.now t.sections.sections.now t.marks.now)
    l.initial.out l.road l.out
