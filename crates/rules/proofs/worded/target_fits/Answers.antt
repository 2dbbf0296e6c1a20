use Rattle.std.proofs.Common.{arith}
use Rattle.rules.proofs.Leaves.{absent_target}
use Rattle.rules.proofs.worded.target_fits.Goals as goal

pub returns : goal.returns
returns c =
    absent_target c.args.text.now c.args.row.now c.args.at c.requires c.if-row-at-eq1.false (omega arith) c.eq.ensures
