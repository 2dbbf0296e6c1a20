use Rattle.std.proofs.Common.{ap, refl}
use Rattle.succession.specs.ByRow.{section_of}
use Rattle.succession.specs.Read.{read_of}
use Rattle.succession.proofs.Turns.{exits_past, exits_within}
use Rattle.succession.proofs.walk.Walk.exits.Goals as goal

pub within_road-requires-clause-room : goal.within_road-requires-clause-room
within_road-requires-clause-room c =
    let walk = c.args.self.now in
    let leads =
    exits_within (read_of walk) c.args.l c.args.forward _ _ _ refl (walk.sound.owner_low _ c.requires.l_in_bounds)
    c.link_at-link.ensures c.next_section.ensures c.in-Some.s (ap section_of c.in-Some.is) _ refl in
    rw leads at c.requires.room

pub leave-requires-clause-room : goal.leave-requires-clause-room
leave-requires-clause-room c =
    let walk = c.args.self.now in
    let leads =
    exits_past (read_of walk) c.args.l c.args.forward _ _ _ refl (walk.sound.owner_low _ c.requires.l_in_bounds)
    c.link_at-link.ensures c.next_section.ensures (ap section_of c.in-None.is) in
    rw leads at c.requires.room

pub returns-in-Some : goal.returns-in-Some
returns-in-Some c =
    let walk = c.args.self.now in
    let leads =
    exits_within (read_of walk) c.args.l c.args.forward _ _ _ refl (walk.sound.owner_low _ c.requires.l_in_bounds)
    c.link_at-link.ensures c.next_section.ensures c.in-Some.s (ap section_of c.in-Some.is) _ refl in
    rw leads c.within_road.ensures

pub returns-in-None : goal.returns-in-None
returns-in-None c =
    let walk = c.args.self.now in
    let leads =
    exits_past (read_of walk) c.args.l c.args.forward _ _ _ refl (walk.sound.owner_low _ c.requires.l_in_bounds)
    c.link_at-link.ensures c.next_section.ensures (ap section_of c.in-None.is) in
    rw leads c.leave.ensures
