-- After each pair the part is written as far, with the signs of the numbers changed.
use Prim.Native.Nat.{◌*◌, ◌/◌}
use mathlib.Core.Path.{◌≡◌}
use lib.ListN.{drop, length}
use Rattle.std.specs.Iterator.Adapters.{enumerate_count, enumerate_source}
use Rattle.std.specs.Slice.Iter.{chunks_exact_rest, chunks_exact_size}
use Rattle.reversal.specs.Turned.{turned_pair}
use Rattle.reversal.proofs.Writers.{WroteAt}
use Rattle.reversal.proofs.links.put_part.Given as goal

abbrev pub invariant-loop-k : goal.invariant-loop-k
invariant-loop-k l =
    WroteAt l.at (length l.part / 2) (turned_pair l.incoming l.connecting l.part) l.initial.out
    (enumerate_count l.k-iterator) l.out
    × (chunks_exact_size (enumerate_source l.k-iterator) ≡ 2)
    × (chunks_exact_rest (enumerate_source l.k-iterator) ≡ drop (enumerate_count l.k-iterator * 2) l.part)
