use Rattle.std.proofs.Common.{rules, tests}
use Rattle.rules.proofs.Every.{all_rise}
use Rattle.rules.proofs.parts.ascending.Goals as goal

pub returns : goal.returns
returns c =
    all_rise c.args.part.now c.all.ensures.ran c.windows.ensures.rest c.windows.ensures.size
    (λ x b q k. search (rules, tests))
