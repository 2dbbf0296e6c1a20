use Rattle.reversal.proofs.Leaves.{lane_10}
use Rattle.reversal.proofs.Writers.{row_fits, wrote_all, wrote_none, wrote_row}
use Rattle.reversal.proofs.lanes.put_lanes.Goals as goal

pub loop-i-init : goal.loop-i-init
loop-i-init c = wrote_none

pub put-requires : goal.put-requires
put-requires c =
    row_fits 10 (lane_10 _ _ _ _ _ _) c.requires c.loop-i.invariant c.loop-i-test.true c.turned_lane.ensures

pub loop-i-preserved : goal.loop-i-preserved
loop-i-preserved c =
    wrote_row 10 (lane_10 _ _ _ _ _ _) c.requires c.loop-i.invariant c.loop-i-test.true c.turned_lane.ensures
    c.put.ensures c.put.auto.out

pub returns : goal.returns
returns c = wrote_all c.loop-i.invariant c.loop-i-test.false
