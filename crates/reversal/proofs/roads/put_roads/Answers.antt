use Rattle.reversal.proofs.Leaves.{road_20}
use Rattle.reversal.proofs.Writers.{row_fits, wrote_all, wrote_none, wrote_row}
use Rattle.reversal.proofs.roads.put_roads.Goals as goal

pub loop-road-init : goal.loop-road-init
loop-road-init c = wrote_none

pub put-requires : goal.put-requires
put-requires c =
    row_fits 20 (road_20 _ _ _) c.requires c.loop-road.invariant c.loop-road-test.true c.turned_road.ensures

pub loop-road-preserved : goal.loop-road-preserved
loop-road-preserved c =
    wrote_row 20 (road_20 _ _ _) c.requires c.loop-road.invariant c.loop-road-test.true c.turned_road.ensures
    c.put.ensures c.put.auto.out

pub returns : goal.returns
returns c = wrote_all c.loop-road.invariant c.loop-road-test.false
