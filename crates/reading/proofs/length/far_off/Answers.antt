use Rattle.std.proofs.Common.{◌∙◌}
use lib.Ieee.{of_bits}
use Rattle.reading.proofs.LengthLaws.{far_above, far_below}
use Rattle.reading.proofs.length.far_off.Goals as goal

pub returns-then-d : goal.returns-then-d
unfolding of_bits
returns-then-d c = c.if-d.true ∙ far_above c.args.length c.args.sum c.if-d.true

pub returns-else-d : goal.returns-else-d
unfolding of_bits
returns-else-d c = far_below c.args.length c.args.sum c.if-d.false
