use Rattle.std.proofs.Common.{◌≡◌, arith, length, rules}
use Rattle.model.specs.Tables.{Tables, bit}
use Rattle.words.specs.Map.{map_read}
use Rattle.repair.proofs.MissingLinks.{by_incoming, end_known, end_unknown, linked_none, linked_one}
use Rattle.repair.proofs.links.missing_link.Goals as goal

pub returns-in_default-clause-linked : goal.returns-in_default-clause-linked
returns-in_default-clause-linked c =
    let j = c.args.junction.now in
    let t : Tables = map_read j.reads.map in
    let ends = c.args.ends.now.words in
    let once = j.reads.ready.once in
    let unknown = by_incoming t.text t.roads t.connections c.args.c c.in_default.ensures.value c.at.ensures in
    linked_none t ends once j.row c.args.c _ (end_unknown t ends once j.row c.args.c unknown)

pub returns-in_default-missing_end-clause-linked : goal.returns-in_default-missing_end-clause-linked
returns-in_default-missing_end-clause-linked c =
    let j = c.args.junction.now in
    let t : Tables = map_read j.reads.map in
    let ends = c.args.ends.now.words in
    let once = j.reads.ready.once in
    let known = by_incoming t.text t.roads t.connections c.args.c c.in-Some.ensures.value c.at.ensures in
    linked_none t ends once j.row c.args.c _
    (end_known t ends once j.row c.args.c _ known c.in_default-missing_end.ensures)

pub returns-clause-linked : goal.returns-clause-linked
returns-clause-linked c =
    let j = c.args.junction.now in
    let t : Tables = map_read j.reads.map in
    let ends = c.args.ends.now.words in
    let ready = j.reads.ready in
    let known = by_incoming t.text t.roads t.connections c.args.c c.in-Some.ensures.value c.at.ensures in
    let long : length ends ≡ 32768 = search rules in
    let end_word : c.from.result ≡ bit c.in-Some-missing_end.at_end = search rules in
    let shown = end_known t ends ready.once j.row c.args.c _ known c.in-Some-missing_end.ensures in
    linked_one t ends ready.once j.row c.args.c c.in-Some.road.0 c.in-Some-missing_end.at_end long
    (omega (arith, c.in-Some.ensures.upper_bound, ready.few_roads)) known shown c.args.warnings.now c.give.ensures
    end_word c.put.ensures.words
