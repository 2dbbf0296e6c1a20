-- Before turn `i` the finished lists of the first `i` lanes are counted.
use Rattle.succession.specs.Found.{onward_of}
use Rattle.succession.specs.Packs.{start_of}
use mathlib.Core.Path.{◌≡◌}
use Rattle.succession.proofs.back.AllFound.count.Given as goal

abbrev pub invariant-loop-i : goal.invariant-loop-i
invariant-loop-i l = l.at ≡ start_of (onward_of l.self) l.i
