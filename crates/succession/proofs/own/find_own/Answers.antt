-- `find_own` turns names into rows, chains the connections, and lets `own_lists` fill in the lists.
use Rattle.std.proofs.Common.{◌/◌, length, arith}
use Rattle.words.specs.Map.{lanes_read}
use Rattle.succession.specs.Answers.{own_list}
use Rattle.succession.proofs.Admits.{exits_fit, fewer, fewer_junctions, fewer_lanes}
use Rattle.succession.proofs.Admits.{own_is, owner_long, parts_good, sound}
use Rattle.succession.proofs.Packing.{filled_same}
use Rattle.succession.proofs.own.find_own.Goals as goal

pub link_rows-requires-clause-few : goal.link_rows-requires-clause-few
link_rows-requires-clause-few c =
    let t = lanes_read c.args.map.now c.args.lanes.now in
    let few = fewer t c.requires.admitted in
    (few.few_roads, fewer_junctions t c.requires.admitted, few.few_connections)

pub link_connections-requires-clause-few : goal.link_connections-requires-clause-few
link_connections-requires-clause-few c =
    let t = lanes_read c.args.map.now c.args.lanes.now in
    let few = fewer t c.requires.admitted in (few.few_connections, fewer_junctions t c.requires.admitted)

pub link_connections-requires-clause-parts : goal.link_connections-requires-clause-parts
link_connections-requires-clause-parts c =
    (parts_good (lanes_read c.args.map.now c.args.lanes.now) c.requires.admitted).0

pub over-requires-clause-few : goal.over-requires-clause-few
over-requires-clause-few c =
    let t = lanes_read c.args.map.now c.args.lanes.now in
    (fewer_lanes t c.requires.admitted, owner_long t c.requires.admitted c.requires.linked)

pub invariant_of-walk : goal.invariant_of-walk
invariant_of-walk c =
    let t = lanes_read c.args.map.now c.args.lanes.now in
    let whole =
    sound t c.requires.admitted c.requires.linked c.link_rows.ensures.0 c.link_rows.ensures.1
    (omega arith) (omega arith) in
    record { sound = rw (c.over.ensures.0, c.over.ensures.1) whole; met = c.link_connections.ensures }

pub own_lists-requires : goal.own_lists-requires
own_lists-requires c =
    let t = lanes_read c.args.map.now c.args.lanes.now in
    let fit =
    exits_fit t c.requires.admitted c.requires.linked c.link_rows.ensures.0 c.link_rows.ensures.1
    (omega arith) (omega arith) in
    let few = fewer_lanes t c.requires.admitted in
    rw (c.over.ensures.0, c.over.ensures.1)
    (omega (arith, few), omega arith, omega (arith, fit))

pub returns : goal.returns
returns c =
    let t = lanes_read c.args.map.now c.args.lanes.now in
    let own =
    own_is t c.requires.admitted c.requires.linked c.link_rows.ensures.0 c.link_rows.ensures.1
    (omega arith) (omega arith) in
    let filled = rw (c.over.ensures.0, c.over.ensures.1) at c.own_lists.ensures in
    filled_same _ (own_list t) (length t.lanes / 10) own _ _ _ _ filled
