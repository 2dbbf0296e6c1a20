use Rattle.std.proofs.Common.{◌∙◌, ap, sym}
use mathlib.Core.Option.{none, some}
use Rattle.model.specs.Tables.{Tables}
use Rattle.words.specs.Map.{map_read}
use Rattle.repair.specs.Now.{end_read, row_connection}
use Rattle.repair.proofs.MissingLinks.{by_connecting, connecting_road, no_connecting, shown_by_target}
use Rattle.repair.proofs.links.missing_end.Goals as goal

pub returns-in_err-connecting : goal.returns-in_err-connecting
returns-in_err-connecting c =
    let j = c.args.junction.now in
    let t : Tables = map_read j.reads.map in
    let unknown = by_connecting t.text t.roads t.connections c.args.c c.in_err-connecting.ensures.value c.at.ensures in
    ap end_read c.from_residual.ensures
    ∙ no_connecting _ _ _ (row_connection t c.args.c) _ (sym c.meets.ensures ∙ c.if-meets.false)
    (connecting_road t c.args.ends.now.words j.reads.ready.once c.args.c unknown)

pub returns-in_err-at_end : goal.returns-in_err-at_end
returns-in_err-at_end c =
    let j = c.args.junction.now in
    let t : Tables = map_read j.reads.map in
    let known = by_connecting t.text t.roads t.connections c.args.c c.in_ok-connecting.ensures.value c.at.ensures in
    shown_by_target t _ j.reads.ready.once _ _ _ _ _ none (sym c.meets.ensures ∙ c.if-meets.false) known
    c.flag-contact.ensures c.target-target.ensures c.in_err-at_end.ensures
    (ap end_read c.from_residual-in_err-at_end.ensures)

pub returns : goal.returns
returns c =
    let j = c.args.junction.now in
    let t : Tables = map_read j.reads.map in
    let known = by_connecting t.text t.roads t.connections c.args.c c.in_ok-connecting.ensures.value c.at.ensures in
    shown_by_target t _ j.reads.ready.once _ _ _ _ _ (some c.in_ok-at_end.at_end)
    (sym c.meets.ensures ∙ c.if-meets.false) known c.flag-contact.ensures c.target-target.ensures
    c.in_ok-at_end.ensures c.vacant_end.ensures
