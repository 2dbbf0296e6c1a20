use Rattle.reversal.proofs.Places.{edges_turned}
use Rattle.reversal.proofs.lanes.edges_of.Goals as goal

pub returns : goal.returns
returns c = edges_turned _ _ _ _ c.floats.ensures c.turned_ends.ensures c.is_marked-mark.ensures c.road.ensures
