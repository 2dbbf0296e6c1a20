use Rattle.std.proofs.Common.{◌∙◌, arith, rules, sym, tests}
use Rattle.model.specs.Rows.{table}
use Rattle.model.specs.Rules.{lane_fine}
use Rattle.model.specs.Tables.{lane_in}
use Rattle.rules.proofs.Every.{every_map, every_row}
use Rattle.rules.proofs.marks.lanes_turn.Goals as goal

pub returns : goal.returns
returns c =
    let lanes = c.args.lanes.now in
    every_row 10 lanes (λ row. lane_fine (lane_in row)) c.all.ensures.ran c.chunks_exact.ensures.rest
    c.chunks_exact.ensures.size (omega arith) (λ x b q k. search (rules, tests))
    ∙ sym (every_map lane_fine lane_in (table 10 lanes))
