use Rattle.repair.proofs.TargetWords.{vacant_is}
use Rattle.repair.proofs.links.vacant_end.Goals as goal

pub returns : goal.returns
returns c = vacant_is _ _ _ _ _ _ _ c.target.ensures c.is_some-occupied.ensures c.then_some.ensures
