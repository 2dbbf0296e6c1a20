use Rattle.succession.proofs.Absorbed.{pair_leads, pair_other}
use Rattle.succession.proofs.Growth.{grown_none}
use Rattle.succession.proofs.walk.Walk.through_pair.Goals as goal

pub enter-requires : goal.enter-requires
enter-requires c = rw (pair_leads _ _ _ _ _ _ _ c.args.p c.if-pairs-p.true) at c.requires.room

pub returns-then-pairs-p : goal.returns-then-pairs-p
returns-then-pairs-p c = rw (pair_leads _ _ _ _ _ _ _ c.args.p c.if-pairs-p.true) c.enter.ensures

pub returns-else-pairs-p : goal.returns-else-pairs-p
returns-else-pairs-p c =
    rw (pair_other _ _ _ _ _ _ _ c.args.p c.if-pairs-p.false) (grown_none _ c.requires.room)
