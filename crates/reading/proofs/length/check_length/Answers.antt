-- `check_length`: uneven, nothing to check, off, or fine.
use Rattle.std.proofs.Common.{arith}
use lib.Ieee.{nan}
use Rattle.reading.proofs.LengthLaws.{length_none, length_sum, length_uneven}
use Rattle.reading.proofs.length.check_length.Goals as goal

pub returns-then-starts-lengths : goal.returns-then-starts-lengths
returns-then-starts-lengths c =
    length_uneven c.args.starts.now c.args.lengths.now c.args.length c.if-starts-lengths.true

pub returns-in_default-2 : goal.returns-in_default-2
returns-in_default-2 c =
    let short = c.in_default.ensures.item.3 in
    length_none c.args.starts.now c.args.lengths.now c.args.length c.if-starts-lengths.false (omega (arith, short))

pub returns : goal.returns
returns c =
    let last = c.in-Some-Some in
    length_sum c.args.starts.now c.args.lengths.now c.args.length c.if-starts-lengths.false last.ensures.item.3.0
    (last.ensures.item.3.1 nan) (last.ensures'.item.3.1 nan) c.far_off.ensures c.then_some.ensures
