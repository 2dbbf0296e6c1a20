-- The rows from `at` on are still to be tried, whatever hash and test the chains and the closure stand for.
use Rattle.std.proofs.Common.{ℕ, ◌≤◌, Bool}
use Rattle.words.specs.Chain.{Chained, Decides, KeyIn, stored}
use Rattle.words.proofs.Loops.{Lookup}
use Rattle.words.proofs.chain.Chain.find.Given as goal

abbrev pub invariant-loop-at : goal.invariant-loop-at
invariant-loop-at g l = record {
  below : stored l.at ≤ l.n;
  seeking : (hash : ℕ → ℕ) (p : ℕ → Bool) → Chained hash l.n l.self.heads l.self.next → KeyIn hash p l.b
      → Decides (goal.F-post g l.test) p l.n → Lookup hash p l.b l.n l.self.heads l.self.next (stored l.at);
}

abbrev pub decreases-loop-at : goal.decreases-loop-at
decreases-loop-at g l = stored l.at
