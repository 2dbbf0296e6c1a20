use Rattle.std.proofs.Common.{arith, rules, tests}
use Rattle.model.specs.Rules.{road_worded}
use Rattle.rules.proofs.Every.{every_row}
use Rattle.rules.proofs.worded.roads_worded.Goals as goal

pub returns : goal.returns
returns c =
    every_row 20 c.args.roads.now (road_worded c.args.text.now) c.all.ensures.ran c.chunks_exact.ensures.rest
    c.chunks_exact.ensures.size (omega arith) (λ x b q k. search (rules, tests))
