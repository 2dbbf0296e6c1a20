use Rattle.std.proofs.Common.{◌/◌, ◌≡◌, ◌∙◌, ap, arith, length, rules}
use lib.ListN.{length-set}
use native.Mathlib.Nat.{not-suc-le-zero}
use Rattle.repair.proofs.Virtual.{marked_more}
use Rattle.repair.proofs.along.mark_roads.Goals as goal

pub loop-road-init : goal.loop-road-init
loop-road-init c = record { long = search rules; marked = record { at = λ k lt b. absurd (not-suc-le-zero lt) } }

pub loop-road-preserved : goal.loop-road-preserved
loop-road-preserved c =
    let held = c.loop-road.invariant in
    record {
      long = ap length c.mark_road.ensures ∙ length-set _ _ _ ∙ length-set _ _ _ ∙ held.long;
      marked = marked_more _ _ _ _ _ held.marked held.long (omega arith) c.mark_road.ensures;
    }

pub returns : goal.returns
returns c =
    let past : c.loop-road.road ≡ length c.args.roads.now / 20 = omega arith in rw past at c.loop-road.invariant.marked
