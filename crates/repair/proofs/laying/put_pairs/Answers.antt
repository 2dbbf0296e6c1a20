use Rattle.std.proofs.Common.{ℕ, ◌+◌, ◌≡◌, List, ◌++◌, ◌∙◌, ap, arith, sym}
use mathlib.Core.List.{append-nil}
use Rattle.model.specs.Records.{Pair}
use Rattle.model.specs.Tables.{pair_row}
use Rattle.words.specs.Rows.{tab}
use Rattle.repair.specs.Laying.{laid_words, pair_at, turned_pair}
use Rattle.repair.proofs.Piles.{grown_more}
use Rattle.repair.proofs.laying.put_pairs.Goals as goal

pub loop-i-init : goal.loop-i-init
unfolding tab
loop-i-init c = record { rows = omega arith; words = sym (append-nil _) }

pub loop-i-preserved : goal.loop-i-preserved
loop-i-preserved c =
    let held = c.loop-i.invariant in
    let pairs : ℕ → Pair = λ j. turned_pair c.args.back (pair_at c.args.pairs.now (c.args.first + j)) in
    record {
      rows = omega (arith, held.rows, c.put.ensures.rows);
      words = grown_more pair_row pairs c.loop-i.i (laid_words c.args.out.now) held.words
          (c.put.ensures.words ∙ ap (λ (r : List ℕ). laid_words c.loop-i.out ++ r) c.pair_row-row.ensures);
    }

pub returns : goal.returns
returns c =
    let held = c.loop-i.invariant in
    let past : c.loop-i.i ≡ c.args.m = omega arith in
    record { rows = rw past at held.rows; words = rw past at held.words }
