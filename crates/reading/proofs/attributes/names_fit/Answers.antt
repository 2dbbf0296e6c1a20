use Rattle.std.proofs.Common.{◌+◌, ◌*◌, ◌∙◌, refl, rules, sym, tests}
use Rattle.model.specs.ReadingCalls.{name_worded}
use Rattle.rules.proofs.Every.{all_numbers}
use Rattle.reading.proofs.NameLaws.{names_all}
use Rattle.reading.proofs.attributes.names_fit.Goals as goal

pub returns : goal.returns
returns c =
    let at = c.args.at in
    all_numbers c.args.n (λ i. name_worded c.args.text.now c.args.ws.now (at + i * 2)) c.all.ensures.ran refl
    (λ x b q k. search (rules, tests))
    ∙ sym (names_all c.args.text.now c.args.n c.args.ws.now at)
