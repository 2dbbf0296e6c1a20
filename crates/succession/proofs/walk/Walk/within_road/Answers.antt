use Rattle.succession.specs.ByRow.{step_by_row}
use Rattle.succession.proofs.Growth.{grown_none}
use Rattle.succession.proofs.walk.Walk.within_road.Goals as goal

pub returns-in_default : goal.returns-in_default
unfolding step_by_row
returns-in_default c = rw c.in_default.is (grown_none _ c.requires.room)
