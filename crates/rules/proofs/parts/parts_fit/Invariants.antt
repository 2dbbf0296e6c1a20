use Rattle.std.specs.Slice.Iter.{chunks_exact_rest, chunks_exact_size}
use Rattle.rules.proofs.Fits.{PartsLeft}
use Rattle.rules.proofs.parts.parts_fit.Given as goal

abbrev pub invariant-loop-row : goal.invariant-loop-row
invariant-loop-row l = PartsLeft l.w l.kf l.kc l.n l.ws l.at (chunks_exact_size l.row-iterator)
    (chunks_exact_rest l.row-iterator)
