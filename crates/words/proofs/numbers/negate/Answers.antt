use Rattle.std.proofs.Common.{◌<◌, arith, rules}
use Rattle.laws.proofs.Mirror.{negated_word}
use Rattle.words.proofs.numbers.negate.Goals as goal

pub returns : goal.returns
returns c =
    let small : c.args.n < 4294967296 = search rules in
    omega (arith, negated_word c.args.n small)
