-- Before turn r the chains are those of the first r rows, and `twice` says whether two of these are alike.
use Rattle.words.proofs.Loops.{Linked}
use Rattle.words.proofs.chain.Chain.link_rows.Given as goal

abbrev pub invariant-loop-r : goal.invariant-loop-r
invariant-loop-r g l =
    Linked (goal.B-post g l.bucket) (goal.A-post g l.alike) l.n l.self.heads l.self.next l.twice l.r-counter
