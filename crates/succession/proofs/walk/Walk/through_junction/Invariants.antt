use Rattle.words.specs.Chain.{stored}
use Rattle.succession.specs.Read.{read_of}
use Rattle.succession.proofs.Walks.{Walked}
use Rattle.succession.proofs.walk.Walk.through_junction.Given as goal

abbrev pub invariant-loop-at : goal.invariant-loop-at
invariant-loop-at l = Walked (read_of l.self) l.count l.j l.road l.k l.initial.run (stored l.at) l.run

abbrev pub decreases-loop-at : goal.decreases-loop-at
decreases-loop-at l = stored l.at
