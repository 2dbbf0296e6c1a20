-- The contact turns over where the connecting road is marked.
use mathlib.Core.Path.{ap, ◌∙◌}
use Rattle.reversal.specs.Turned.{mark_of}
use Rattle.reversal.proofs.Leaves.{contact_turned}
use Rattle.reversal.proofs.links.turned_connection.Goals as goal

pub returns : goal.returns
returns c =
    let t = c.args.turning.now in
    let mark = mark_of t.roads.text.now t.roads.rows.now t.marks.now in
    rw c.from.ensures (contact_turned _ _ _ _ _ (search)
    c.row-row.ensures (c.marked.ensures ∙ ap mark c.at.ensures) c.flag.ensures)
