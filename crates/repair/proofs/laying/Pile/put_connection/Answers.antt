use Rattle.std.proofs.Common.{◌++◌, List, ℕ, ◌+◌, ◌∙◌, ap, arith}
use Rattle.rules.proofs.Fits.{fit_in}
use Rattle.repair.specs.Laying.{laid_words}
use Rattle.repair.specs.Ready.{Small}
use Rattle.repair.proofs.Piles.{lay_one}
use Rattle.repair.proofs.laying.Pile.put_connection.Goals as goal

pub put_pairs-requires : goal.put_pairs-requires
put_pairs-requires c =
    let m = c.args.reads.now.map in
    let small : Small m.pairs.now m.connections.now = c.args.reads.now.ready.small in
    let fits = fit_in 7 5 6 _ _ small.fit _ c.requires.inside in (
      omega (arith, fits, c.word-first.ensures.0, c.word-count.ensures.0, small.few_pairs),
      omega (arith, c.word-count.ensures.0, c.requires.pair_rows),
    )

pub returns : goal.returns
returns c =
    let m = c.args.reads.now.map in
    let x = c.args.self.now in
    record {
      pair_rows = c.put_pairs.ensures.rows ∙ ap (λ (k : ℕ). x.pairs.rows + k) c.word-count.ensures.0;
      laid = lay_one m.pairs.now _ c.args.reads.now.ready.small _ c.requires.inside _ _ _ c.word-first.ensures.0
          c.word-count.ensures.0 c.put.ensures.rows
          (c.put.ensures.words
          ∙ ap (λ (row : List ℕ). laid_words x.connections ++ row) c.connection_row-row.ensures)
          c.put_pairs.ensures.rows c.put_pairs.ensures.words;
    }
