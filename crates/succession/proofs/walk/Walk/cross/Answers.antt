-- Where a target is absent, names no junction, or is a road that the lane isn't linked to, nothing is led into.
use Rattle.succession.specs.ByRow.{cross_by_row}
use Rattle.succession.proofs.Growth.{grown_none}
use Rattle.succession.proofs.walk.Walk.cross.Goals as goal

pub returns-in_default : goal.returns-in_default
unfolding cross_by_row
returns-in_default c = rw (← c.in_default.ensures) (grown_none _ c.requires.room)

pub returns-in_default-to : goal.returns-in_default-to
unfolding cross_by_row
returns-in_default-to c =
    rw (← c.in-Some.ensures, c.if-target.true, c.in_default-to.is) (grown_none _ c.requires.room)

pub returns-in_default-link : goal.returns-in_default-link
unfolding cross_by_row
returns-in_default-link c =
    rw (← c.in-Some.ensures, c.if-target.false, c.in_default-link.is) (grown_none _ c.requires.room)
