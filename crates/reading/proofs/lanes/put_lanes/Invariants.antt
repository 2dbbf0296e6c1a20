-- `put_lanes`: before turn `i` the rows below `i` are written.
use Rattle.std.proofs.Common.{◌≡◌}
use Rattle.model.specs.Lists.{gather}
use Rattle.model.specs.Reading.{part_rows}
use Rattle.model.specs.Rows.{written}
use Rattle.reading.proofs.LaneLaws.{lane_at}
use Rattle.reading.proofs.lanes.put_lanes.Given as goal

abbrev pub invariant-loop-i : goal.invariant-loop-i
invariant-loop-i l = l.out ≡ written (gather (lane_at l.text l.raw) (part_rows 0 l.i)) l.initial.out
