use Rattle.succession.proofs.RunLaws.{put_place}
use Rattle.succession.proofs.list.put_in.Goals as goal

pub returns : goal.returns
returns c = put_place _ _ _ _ _ c.requires.1 c.below-k.ensures c.shift.ensures
