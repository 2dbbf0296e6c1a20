use Rattle.repair.specs.Laying.{laid_words, pair_at, turned_pair}
use Rattle.repair.specs.declared.laid.LaidRows.{LaidRows}
use Rattle.words.specs.Rows.{tab}
use Rattle.model.specs.Lists.{gather}
use Rattle.model.specs.Records.{Pair}
use Rattle.model.specs.Tables.{pair_row}
use Rattle.std.proofs.Common.{ℕ, ◌≡◌, ◌++◌, ◌+◌}
use Rattle.repair.proofs.laying.put_pairs.Given as goal

-- before turn i the first i pairs are laid
pub record Held (pairs : ℕ → Pair) (i : ℕ) (before after : LaidRows 2 32768) : Type 0 where
  pub rows : after.rows ≡ before.rows + i
  pub words : laid_words after ≡ laid_words before ++ gather pair_row (tab i pairs)

abbrev pub invariant-loop-i : goal.invariant-loop-i
invariant-loop-i l = Held (λ j. turned_pair l.back (pair_at l.pairs (l.first + j))) l.i l.initial.out l.out
