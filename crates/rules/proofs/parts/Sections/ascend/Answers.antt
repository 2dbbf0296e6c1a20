use Rattle.std.proofs.Common.{◌/◌, length, refl, rules, tests}
use Rattle.model.specs.Lists.{ascends}
use Rattle.rules.specs.ByRow.{numbers_at}
use Rattle.rules.proofs.Every.{all_numbers}
use Rattle.rules.proofs.parts.Sections.ascend.Goals as goal

pub returns : goal.returns
returns c =
    let m = c.args.self.now in
    all_numbers (length m.roads.now / 20) (λ i. ascends (numbers_at m.roads.now m.sections.now i))
    c.all.ensures.ran refl (λ x b q k. search (rules, tests))
