use Rattle.std.proofs.Common.{◌∙◌, ap, sym}
use Rattle.model.specs.Tables.{pair_row}
use Rattle.repair.specs.Laying.{pair_at, turned_pair}
use Rattle.repair.proofs.Piles.{pair_plain, pair_turned}
use Rattle.repair.proofs.laying.pair_row.Goals as goal

pub returns-in-None : goal.returns-in-None
returns-in-None c =
    pair_plain c.args.pairs.now c.args.q
    ∙ ap (λ b. pair_row (turned_pair b (pair_at c.args.pairs.now c.args.q))) (sym c.in-None.is)

pub returns-in-Some : goal.returns-in-Some
returns-in-Some c =
    pair_turned c.args.pairs.now c.args.q
    ∙ ap (λ b. pair_row (turned_pair b (pair_at c.args.pairs.now c.args.q))) (sym c.in-Some.is)
