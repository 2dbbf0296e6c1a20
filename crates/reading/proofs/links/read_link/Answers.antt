use Rattle.std.proofs.Common.{refl}
use Rattle.reading.proofs.LinkLaws.{link_off, link_on}
use Rattle.reading.proofs.RunLaws.{run_as}
use Rattle.reading.proofs.links.read_link.Goals as goal

pub returns-in-Some-clause-read : goal.returns-in-Some-clause-read
returns-in-Some-clause-read c =
    let raw = c.args.tables.now.raw in
    link_on raw.text.now raw.lane_links.now c.args.l c.lane_link.ensures c.args.j c.args.c c.in-Some.ensures
    c.put.ensures.put

pub returns-in-None-clause-read : goal.returns-in-None-clause-read
returns-in-None-clause-read c =
    let raw = c.args.tables.now.raw in
    link_off raw.text.now raw.lane_links.now c.args.l c.lane_link.ensures c.args.j c.args.c c.in-None.ensures
    (run_as c.put-in-None.ensures.put c.row.ensures refl)
