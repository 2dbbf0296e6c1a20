-- `geometry::root::one_nearer` meets its contract: the number stays at most 2 ^ 24. Assumes nothing.
use native.Mathlib.Omega.{arith}
use Rattle.geometry.proofs.Squares.{square_bound, up_bound, down_bound}
use Rattle.geometry.proofs.root.one_nearer.Goals as goal

pub overflow_mul-up : goal.overflow_mul-up
overflow_mul-up c = omega (arith, square_bound c.args.q c.requires.2)

pub overflow_add-up : goal.overflow_add-up
overflow_add-up c = omega (arith, square_bound c.args.q c.requires.2)

pub overflow_mul-down : goal.overflow_mul-down
overflow_mul-down c = omega (arith, square_bound c.args.q c.requires.2)

pub overflow_add-result : goal.overflow_add-result
overflow_add-result c = omega (arith, up_bound c.args.n c.args.q c.requires.1 c.requires.2)

pub overflow_sub-result : goal.overflow_sub-result
overflow_sub-result c = down_bound _ _ _ c.requires.0

pub returns : goal.returns
returns c = omega (arith, up_bound c.args.n c.args.q c.requires.1 c.requires.2)
