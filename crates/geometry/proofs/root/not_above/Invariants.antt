-- `geometry::root::not_above` meets its contract: q falls, and n + q ≤ q * q holds of no q below 1. Assumes nothing.
use Prim.Native.Nat.{◌^◌, ◌≤◌}
use Rattle.geometry.proofs.root.not_above.Given as goal

abbrev pub invariant-loop-q : goal.invariant-loop-q
invariant-loop-q l = l.q ≤ 2 ^ 24

abbrev pub decreases-loop-q : goal.decreases-loop-q
decreases-loop-q l = l.q
