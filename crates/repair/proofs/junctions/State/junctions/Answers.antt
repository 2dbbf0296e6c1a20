use Rattle.std.proofs.Common.{◌/◌, ◌≡◌, arith, length}
use Rattle.repair.proofs.JunctionSteps.{over_none, over_more}
use Rattle.repair.proofs.junctions.State.junctions.Goals as goal

pub loop-k-init : goal.loop-k-init
loop-k-init c =
    let blank = c.requires in
    record {
      twice = record { rows = omega (arith, blank.connections); pair_rows = omega (arith, blank.pairs) };
      warnings = omega (arith, blank.warnings);
      over = over_none _ _ blank;
    }

pub repair_junction-requires : goal.repair_junction-requires
repair_junction-requires c =
    let held = c.loop-k.invariant in
    rw (c.at-junction.ensures.0, c.at-junction.ensures.1) (held.over.count, held.twice, held.warnings)

pub loop-k-preserved : goal.loop-k-preserved
loop-k-preserved c =
    let step = rw (c.at-junction.ensures.0, c.at-junction.ensures.1) at c.repair_junction.ensures in
    record {
      twice = step.twice;
      warnings = step.warnings;
      over = over_more _ _ _ c.requires c.loop-k.invariant.over step.stepped;
    }

pub returns : goal.returns
returns c =
    let past : c.loop-k.k ≡ length c.args.reads.now.map.junctions.now / 5 = omega arith in
    rw past at c.loop-k.invariant.over
