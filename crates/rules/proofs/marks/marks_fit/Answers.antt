use Rattle.std.proofs.Common.{arith, leb, rules, tests}
use Rattle.std.proofs.lemmas.Bool.Decides.{nat_tests}
use Rattle.rules.proofs.Every.{every_item}
use Rattle.rules.proofs.marks.marks_fit.Goals as goal

pub returns-then-n-marks : goal.returns-then-n-marks
returns-then-n-marks c =
    let all = every_item c.args.marks.now (λ k. leb k 1) c.all.ensures.ran c.iter.ensures.rest
    (λ x b q k. search (rules, tests)) in
    grind (arith, nat_tests)
