use Rattle.repair.proofs.Virtual.{roads_start}
use Rattle.repair.proofs.along.without_along.Goals as goal

pub returns : goal.returns
returns c =
    let m = c.args.map.now in
    let marked = rw (c.over-junctions.ensures.0, c.over-junctions.ensures.1) at c.mark_roads.ensures in
    roads_start m.text.now m.roads.now m.junctions.now _ marked m.sections.now m.pairs.now m.connections.now
