-- Before turn i the rows of the first i lanes are put.
use Rattle.gaps.specs.Lent.{Put, words_below}
use Rattle.gaps.proofs.links.Links.put.Given as goal

abbrev pub invariant-loop-row : goal.invariant-loop-row
invariant-loop-row l = Put (words_below l.self l.row) l.initial.out l.out l.at
