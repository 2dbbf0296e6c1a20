use Rattle.std.proofs.Common.{arith, rules, tests}
use Rattle.model.specs.ReadingCalls.{raw_target_worded}
use Rattle.rules.proofs.Every.{every_row}
use Rattle.reading.proofs.targets.targets_fit.Goals as goal

pub returns : goal.returns
returns c =
    every_row 9 c.args.raw.now (raw_target_worded c.args.text.now) c.all.ensures.ran c.chunks_exact.ensures.rest
    c.chunks_exact.ensures.size (omega arith) (λ x b q k. search (rules, tests))
