use Rattle.std.proofs.Common.{ap}
use Rattle.words.specs.Chain.{stored}
use Rattle.succession.specs.Read.{read_of}
use Rattle.succession.proofs.Walks.{walk_begin, walk_end, walk_less, walk_on, walk_room}
use Rattle.succession.proofs.walk.Walk.through_junction.Goals as goal

pub loop-at-init : goal.loop-at-init
loop-at-init c =
    let walk = c.args.self.now in
    walk_begin (read_of walk) c.args.j c.args.road c.args.k _ walk.sound walk.met c.requires.room c.requires.in_bounds
    _ _ c.bucket.ensures.0 c.bucket.ensures.1 c.head-at.ensures

pub through_connection-requires-clause-room : goal.through_connection-requires-clause-room
through_connection-requires-clause-room c =
    let walk = c.args.self.now in
    walk_room (read_of walk) c.args.j c.args.road c.args.k _ walk.sound walk.met c.requires.room c.requires.in_bounds
    _ _ c.loop-at.invariant c.in-Some.i (ap stored c.in-Some.is)

pub loop-at-smaller : goal.loop-at-smaller
loop-at-smaller c =
    let walk = c.args.self.now in
    let less =
    walk_less (read_of walk) c.args.j c.args.road c.args.k _ walk.sound walk.met c.requires.room c.requires.in_bounds
    _ _ c.loop-at.invariant c.in-Some.i (ap stored c.in-Some.is) in
    rw c.after-at.ensures less

pub loop-at-preserved : goal.loop-at-preserved
loop-at-preserved c =
    let walk = c.args.self.now in
    walk_on (read_of walk) c.args.j c.args.road c.args.k _ walk.sound walk.met c.requires.room c.requires.in_bounds _ _
    c.loop-at.invariant c.in-Some.i (ap stored c.in-Some.is) _ _ c.after-at.ensures c.through_connection.ensures

pub returns : goal.returns
returns c =
    let walk = c.args.self.now in
    walk_end (read_of walk) c.args.j c.args.road c.args.k _ walk.sound walk.met c.requires.room c.requires.in_bounds _ _
    c.loop-at.invariant (ap stored c.in_default.is)
