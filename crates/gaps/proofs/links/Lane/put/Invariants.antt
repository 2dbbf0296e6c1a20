-- Before turn k the rows of the first k links are put.
use Rattle.gaps.specs.Lent.{Put}
use Rattle.gaps.proofs.LinkLaws.{first_words}
use Rattle.gaps.proofs.links.Lane.put.Given as goal

abbrev pub invariant-loop-id : goal.invariant-loop-id
invariant-loop-id l = Put (first_words l.self.links l.self.row l.id-index) l.initial.out l.out l.at
