use Rattle.succession.proofs.walk.Walk.enter.Goals as goal

pub enter-requires-clause-room : goal.enter-requires-clause-room
enter-requires-clause-room c = rw c.lookup-row.ensures.0 c.requires

pub returns : goal.returns
returns c = rw c.lookup-row.ensures.0 at c.enter.ensures
