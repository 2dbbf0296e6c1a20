use Rattle.gaps.proofs.Climbs.{found_is}
use Rattle.gaps.proofs.lists.is_borne.Goals as goal

pub returns : goal.returns
returns c = found_is _ _ c.find.result c.is_some.ensures c.find.ensures
