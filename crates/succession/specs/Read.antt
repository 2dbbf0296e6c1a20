-- The rows of a walk, read from the slices that are lent. Definitions only.
use Rattle.succession.specs.declared.walk.Walk.{Walk}
use Rattle.succession.specs.ByRow.{Rows, rows_of}

abbrev pub read_of : Walk → Rows
read_of w =
    rows_of w.map.roads.now w.map.sections.now w.map.junctions.now w.map.connections.now w.map.pairs.now
    w.places.lanes.now w.places.owner.now w.sides.now w.ends.now
