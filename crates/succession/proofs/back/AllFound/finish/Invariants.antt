-- Before turn `i` the finished lists of the first `i` lanes stand, and `at` is where they end.
use Rattle.succession.specs.Found.{onward_of}
use Rattle.succession.specs.Packs.{start_of}
use Rattle.words.specs.Rows.{joined, tab}
use Rattle.model.specs.Rows.{written}
use mathlib.Core.Path.{◌≡◌}
use Rattle.succession.proofs.back.AllFound.finish.Given as goal

abbrev pub invariant-loop-i : goal.invariant-loop-i
invariant-loop-i l = (l.at ≡ start_of (onward_of l.self) l.i)
    × (l.offsets ≡ written (tab l.i (start_of (onward_of l.self))) l.initial.offsets)
    × (l.out ≡ written (joined l.i (onward_of l.self)) l.initial.out)
