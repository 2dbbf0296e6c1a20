use Rattle.std.proofs.Common.{refl}
use Rattle.reading.specs.Outs.{laid}
use Rattle.reading.proofs.JunctionLaws.{drop_turn}
use Rattle.reading.proofs.RunLaws.{run_as, run_none}
use Rattle.reading.proofs.junctions.drop_all.Goals as goal

pub loop-k-init : goal.loop-k-init
loop-k-init c = run_none 4 (laid c.args.out.now)

pub loop-k-preserved : goal.loop-k-preserved
loop-k-preserved c =
    drop_turn c.args.j c.args.first c.loop-k.k c.loop-k.invariant (run_as c.put.ensures.put c.row.ensures refl)
