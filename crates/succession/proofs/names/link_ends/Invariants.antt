use Rattle.succession.specs.Named.{Ended}
use Rattle.succession.proofs.names.link_ends.Given as goal

abbrev pub invariant-loop-r : goal.invariant-loop-r
invariant-loop-r l = Ended l.roads.text.now l.roads.rows.now l.junctions.rows.now l.r l.ends
