use Rattle.std.proofs.Common.{◌∙◌, ap, length, refl, rules, sym, tests}
use Rattle.words.specs.Rows.{all}
use Rattle.rules.specs.ByRow.{turns_twice}
use Rattle.rules.proofs.Every.{all_numbers}
use Rattle.rules.proofs.marks.one_ended.Goals as goal

pub returns : goal.returns
unfolding turns_twice
returns c =
    let m = c.args.map.now in
    all_numbers (length c.args.marks.now) (turns_twice m.text.now m.roads.now m.junctions.now c.args.marks.now)
    c.all.ensures.ran refl (λ x b q k. search (rules, tests))
    ∙ ap (λ n. all n (turns_twice m.text.now m.roads.now m.junctions.now c.args.marks.now)) (sym c.requires.marked)
