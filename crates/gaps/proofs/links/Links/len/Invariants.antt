-- Before turn i the words of the rows of the first i lanes are counted.
use mathlib.Core.Path.{◌≡◌}
use lib.ListN.{length}
use Rattle.gaps.specs.Lent.{words_below}
use Rattle.gaps.proofs.links.Links.len.Given as goal

abbrev pub invariant-loop-row : goal.invariant-loop-row
invariant-loop-row l = l.words ≡ length (words_below l.self l.row)
