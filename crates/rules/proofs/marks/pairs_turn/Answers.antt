use Rattle.std.proofs.Common.{◌∙◌, arith, rules, sym, tests}
use Rattle.model.specs.Rows.{table}
use Rattle.model.specs.Rules.{pair_fine}
use Rattle.model.specs.Tables.{pair_in}
use Rattle.rules.proofs.Every.{every_map, every_row}
use Rattle.rules.proofs.marks.pairs_turn.Goals as goal

pub returns : goal.returns
unfolding pair_fine pair_in
returns c =
    let pairs = c.args.pairs.now in
    every_row 2 pairs (λ row. pair_fine (pair_in row)) c.all.ensures.ran c.chunks_exact.ensures.rest
    c.chunks_exact.ensures.size (omega arith) (λ x b q k. search (rules, tests))
    ∙ sym (every_map pair_fine pair_in (table 2 pairs))
