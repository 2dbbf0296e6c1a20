use Rattle.std.proofs.Common.{rules, tests}
use Rattle.model.specs.ReadingCalls.{names_worded}
use Rattle.rules.proofs.Every.{every_row}
use Rattle.reading.proofs.attributes.rows_named.Goals as goal

pub returns : goal.returns
returns c =
    every_row c.args.w c.args.ws.now (λ row. names_worded c.args.text.now c.args.n row 0) c.all.ensures.ran
    c.chunks_exact.ensures.rest c.chunks_exact.ensures.size c.requires.0 (λ x b q k. search (rules, tests))
