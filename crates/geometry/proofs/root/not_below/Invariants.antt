-- `geometry::root::not_below` meets its contract: q * (q - 1) stays below n. Assumes nothing.
use Prim.Native.Nat.{◌+◌, ◌-◌, ◌*◌, ◌^◌, ◌≤◌, ◌<◌}
use Rattle.geometry.proofs.root.not_below.Given as goal

abbrev pub invariant-loop-q : goal.invariant-loop-q
invariant-loop-q l = (l.q ≤ 2 ^ 24) × (l.q * l.q < l.n + l.q)

abbrev pub decreases-loop-q : goal.decreases-loop-q
decreases-loop-q l = l.n - l.q
