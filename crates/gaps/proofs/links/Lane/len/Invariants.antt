-- Before turn k the words of the first k links are counted.
use mathlib.Core.Path.{◌≡◌}
use lib.ListN.{length}
use Rattle.gaps.proofs.LinkLaws.{first_words}
use Rattle.gaps.proofs.links.Lane.len.Given as goal

abbrev pub invariant-loop-id : goal.invariant-loop-id
invariant-loop-id l = l.words ≡ length (first_words l.self.links l.self.row l.id-index)
