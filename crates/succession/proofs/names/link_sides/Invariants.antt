use Rattle.succession.specs.Named.{Sided}
use Rattle.succession.proofs.names.link_sides.Given as goal

abbrev pub invariant-loop-c : goal.invariant-loop-c
invariant-loop-c l = Sided l.roads.text.now l.roads.rows.now l.connections l.c l.sides
