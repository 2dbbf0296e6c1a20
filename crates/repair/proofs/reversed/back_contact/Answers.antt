use Rattle.std.proofs.Common.{◌∙◌, ap, sym}
use Rattle.model.specs.Tables.{Tables}
use Rattle.words.specs.Map.{map_read}
use Rattle.repair.specs.Laying.{back_list}
use Rattle.repair.specs.Now.{row_connection}
use Rattle.repair.proofs.MissingLinks.{by_incoming, incoming_road}
use Rattle.repair.proofs.OtherWay.{runs_is, runs_already, back_unknown, back_known}
use Rattle.repair.proofs.reversed.back_contact.Goals as goal

pub returns-then-runs_back : goal.returns-then-runs_back
returns-then-runs_back c =
    let j = c.args.junction.now in
    let m = j.reads.map in
    let runs = runs_is m.text.now m.connections.now m.pairs.now c.args.c j.first j.count j.within in
    runs_already _ _ _ _ _ (runs ∙ sym c.runs_back.ensures ∙ c.if-runs_back.true)

pub returns-in_err-road : goal.returns-in_err-road
returns-in_err-road c =
    let j = c.args.junction.now in
    let m = j.reads.map in
    let t : Tables = map_read m in
    let runs = runs_is m.text.now m.connections.now m.pairs.now c.args.c j.first j.count j.within in
    let unknown = by_incoming t.text t.roads t.connections c.args.c c.in_err-road.ensures.value c.at.ensures in
    ap (λ o. back_list o (row_connection t c.args.c)) c.from_residual.ensures
    ∙ back_unknown _ _ _ _ _ (runs ∙ sym c.runs_back.ensures ∙ c.if-runs_back.false)
    (incoming_road t c.args.ends.now.words j.reads.ready.once c.args.c unknown)

pub returns : goal.returns
returns c =
    let j = c.args.junction.now in
    let m = j.reads.map in
    let t : Tables = map_read m in
    let runs = runs_is m.text.now m.connections.now m.pairs.now c.args.c j.first j.count j.within in
    let known = by_incoming t.text t.roads t.connections c.args.c c.in_ok-road.ensures.value c.at.ensures in
    back_known _ _ _ _ _ _ _ (runs ∙ sym c.runs_back.ensures ∙ c.if-runs_back.false)
    (incoming_road t c.args.ends.now.words j.reads.ready.once c.args.c known) c.meeting_end.ensures
