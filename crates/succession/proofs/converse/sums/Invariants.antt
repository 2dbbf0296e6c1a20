-- `sums` writes where each run begins, and adds its length. Before turn `i` the first `i` offsets stand, and `at`
-- is the sum of the first `i` counts.
use Rattle.succession.specs.Packs.{sum_of_first}
use Rattle.words.specs.Rows.{tab}
use Rattle.model.specs.Rows.{written}
use mathlib.Core.Path.{◌≡◌}
use Rattle.succession.proofs.converse.sums.Given as goal

abbrev pub invariant-loop-i : goal.invariant-loop-i
invariant-loop-i l = (l.at ≡ sum_of_first l.counts l.i)
    × (l.offsets ≡ written (tab l.i (sum_of_first l.counts)) l.initial.offsets)
