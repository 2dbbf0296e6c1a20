use Rattle.std.proofs.Common.{arith, rules}
use Rattle.reading.proofs.NumberLaws.{digits_over}
use Rattle.reading.proofs.numbers.digits.Goals as goal

pub returns-in_err-checked_mul : goal.returns-in_err-checked_mul
returns-in_err-checked_mul c =
    let over = c.in_err-checked_mul.ensures in
    rw c.from_residual.ensures
    (digits_over c.args.most c.loop-b.number c.loop-b.b-index c.args.bytes.now c.loop-b-test.true c.loop-b.invariant
    (search rules) (omega (arith, over, c.ranges.most.fits)))

pub returns-in_err-number : goal.returns-in_err-number
returns-in_err-number c =
    let over = c.in_err-number.ensures in
    let shifted = c.in_ok-checked_mul.ensures in
    rw c.from_residual-in_err-number.ensures
    (digits_over c.args.most c.loop-b.number c.loop-b.b-index c.args.bytes.now c.loop-b-test.true c.loop-b.invariant
    (search rules) (omega (arith, over, shifted, c.from.ensures, c.ranges.most.fits)))
