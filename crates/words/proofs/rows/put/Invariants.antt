-- `put` writes one word after another: before turn `k` the first `k` words of the row are in place.
use Rattle.words.proofs.Laws.{Putting}
use Rattle.words.proofs.rows.put.Given as goal

abbrev pub invariant-loop-k : goal.invariant-loop-k
invariant-loop-k g l = Putting l.at l.row l.initial.out l.k l.out
