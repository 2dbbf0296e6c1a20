-- `shift` moves word by word, the last one first. Before a turn the words from `i` on stand one place on.
use Rattle.std.proofs.Common.{◌≤◌}
use Rattle.succession.specs.Runs.{Moved}
use Rattle.succession.proofs.list.shift.Given as goal

abbrev pub invariant-loop-i : goal.invariant-loop-i
invariant-loop-i l = (l.k ≤ l.i) × (l.i ≤ l.n) × Moved l.i l.n l.initial.run l.run
