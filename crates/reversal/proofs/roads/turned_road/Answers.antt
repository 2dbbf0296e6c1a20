-- The targets swap where the road is marked.
use mathlib.Core.Bool.{true, false}
use mathlib.Core.Path.{sym, ap, ◌∙◌}
use Rattle.model.specs.Lists.{map_o}
use Rattle.model.specs.Reversal.{reverse_target}
use Rattle.reversal.specs.Turned.{mark_of}
use Rattle.reversal.proofs.Leaves.{road_is}
use Rattle.reversal.proofs.roads.turned_road.Goals as goal

pub returns-then-is_marked : goal.returns-then-is_marked
returns-then-is_marked c =
    let t = c.args.turning.now in
    let turned = map_o (reverse_target (mark_of t.roads.text.now t.roads.rows.now t.marks.now)) in
    road_is t.roads.text.now t.roads.rows.now t.marks.now c.args.road.0 c.row-row.ensures
    (c.turned-before.ensures ∙ ap turned c.at.ensures) (c.turned-after.ensures ∙ ap turned c.at-2.ensures) true
    (sym c.if-is_marked.ensures) c.road_with.ensures

pub returns-else-is_marked : goal.returns-else-is_marked
returns-else-is_marked c =
    let t = c.args.turning.now in
    let turned = map_o (reverse_target (mark_of t.roads.text.now t.roads.rows.now t.marks.now)) in
    road_is t.roads.text.now t.roads.rows.now t.marks.now c.args.road.0 c.row-row.ensures
    (c.turned-before.ensures ∙ ap turned c.at.ensures) (c.turned-after.ensures ∙ ap turned c.at-2.ensures) false
    (sym c.if-is_marked.ensures) c.road_with-else-is_marked.ensures
