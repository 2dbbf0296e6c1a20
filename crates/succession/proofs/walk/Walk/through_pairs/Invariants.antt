use Rattle.std.proofs.Common.{◌-◌}
use Rattle.succession.specs.ByRow.{pair_by_row, ranged}
use Rattle.succession.specs.Grown.{Grown}
use Rattle.succession.specs.Read.{read_of}
use Rattle.succession.proofs.walk.Walk.through_pairs.Given as goal

abbrev pub invariant-loop-p : goal.invariant-loop-p
invariant-loop-p l =
    Grown (ranged l.first (l.p - l.first) (pair_by_row (read_of l.self) l.c l.k)) l.initial.run l.run
