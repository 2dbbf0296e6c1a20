-- `own_lists` writes where each own list begins, and the list. Before turn `l` those of the first `l` lanes stand,
-- and `at` is where they end.
use Rattle.std.proofs.Common.{◌≡◌}
use Rattle.model.specs.Rows.{written}
use Rattle.words.specs.Rows.{joined, tab}
use Rattle.succession.specs.ByRow.{successors_by_row}
use Rattle.succession.specs.Packs.{start_of}
use Rattle.succession.specs.Read.{read_of}
use Rattle.succession.proofs.walk.Walk.own_lists.Given as goal

abbrev pub invariant-loop-l : goal.invariant-loop-l
invariant-loop-l l =
    let lists = successors_by_row (read_of l.self) in
    record {
      at : l.at ≡ start_of lists l.l;
      offsets : l.offsets ≡ written (tab l.l (start_of lists)) l.initial.offsets;
      own : l.own ≡ written (joined l.l lists) l.initial.own;
    }
