-- After each number the mirrored part is written as far.
use Rattle.std.proofs.Common.{length}
use Rattle.model.specs.Reversal.{mirrored}
use Rattle.reversal.proofs.Writers.{Pasted}
use Rattle.reversal.proofs.roads.put_mirrored.Given as goal

abbrev pub invariant-loop-k : goal.invariant-loop-k
invariant-loop-k l = Pasted l.at (mirrored l.part) l.initial.out (length l.yielded) l.out
