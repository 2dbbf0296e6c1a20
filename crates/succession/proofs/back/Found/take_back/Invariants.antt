-- Before turn `k` the run has the links back from the first `k` finders.
use Rattle.succession.specs.Finished.{Made, back_into}
use Rattle.succession.specs.Found.{wanted_by}
use lib.ListN.{take}
use Rattle.succession.proofs.back.Found.take_back.Given as goal

abbrev pub invariant-loop-x : goal.invariant-loop-x
invariant-loop-x l =
    Made (back_into (wanted_by l.self) (take l.x-index l.self.finders.now) (take l.start l.initial.run)) l.initial.run
    l.run l.n
