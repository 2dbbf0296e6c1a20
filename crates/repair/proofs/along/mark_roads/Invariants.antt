use Rattle.repair.specs.Along.{Marked}
use mathlib.Core.Path.{◌≡◌}
use mathlib.Core.List.{List}
use lib.ListN.{length}
use Prim.Native.Nat.{ℕ}
use Rattle.repair.proofs.along.mark_roads.Given as goal

-- before each turn the roads so far are marked
pub record Held (text roads junctions ends : List ℕ) (road : ℕ) : Type 0 where
  pub long : length ends ≡ 32768
  pub marked : Marked text roads junctions road ends

abbrev pub invariant-loop-road : goal.invariant-loop-road
invariant-loop-road l = Held l.junctions.text.now l.roads l.junctions.rows.now l.ends.words l.road
