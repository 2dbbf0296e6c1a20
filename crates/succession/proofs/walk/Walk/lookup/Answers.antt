use Rattle.words.proofs.Chains.{last_le}
use Rattle.succession.specs.ByRow.{lane_row_of}
use Rattle.succession.proofs.walk.Walk.lookup.Goals as goal

pub returns : goal.returns
unfolding lane_row_of
returns c = (c.find.ensures, rw c.find.ensures (last_le _ _))
