use Rattle.succession.specs.ByRow.{own_exits_by_row}
use Rattle.succession.proofs.Growth.{grown_on, room_next}
use Rattle.succession.proofs.walk.Walk.own_exits.Goals as goal

pub exits-requires-in-Both-2-clause-room : goal.exits-requires-in-Both-2-clause-room
unfolding own_exits_by_row
exits-requires-in-Both-2-clause-room c =
    room_next _ _ _ (rw (← c.in-Both.ensures) at c.requires.room) _ c.exits-in-Both.ensures

pub returns-in-Both : goal.returns-in-Both
unfolding own_exits_by_row
returns-in-Both c =
    let room = rw (← c.in-Both.ensures) at c.requires.room in
    rw (← c.in-Both.ensures) (grown_on _ _ _ room _ c.exits-in-Both.ensures _ c.exits-in-Both-2.ensures)
