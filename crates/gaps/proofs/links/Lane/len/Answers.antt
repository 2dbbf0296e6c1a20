use mathlib.Core.Path.{ap, ◌∙◌}
use native.Mathlib.Omega.{arith}
use lib.ListN.{length}
use Rattle.gaps.proofs.LinkLaws.{link_turn, links_all, links_none}
use Rattle.gaps.proofs.RowLaws.{gives_none, gives_some}
use Rattle.gaps.proofs.links.Lane.len.Goals.{then-is_some, else-is_some}
use Rattle.gaps.proofs.links.Lane.len.Goals as goal

pub loop-id-init : goal.loop-id-init
loop-id-init c = ap length (links_none c.args.self.now.links c.args.self.now.row)

pub row_to-requires : goal.row_to-requires
row_to-requires c =
    let lane = c.args.self.now in
    let turn = link_turn lane.links lane.row lane.there c.next_ids-id-items.ensures c.loop-id.id-index
    c.loop-id-test.true in
    turn.borne

pub overflow_add-words : goal.overflow_add-words
overflow_add-words c =
    let lane = c.args.self.now in
    let turn = link_turn lane.links lane.row lane.there c.next_ids-id-items.ensures c.loop-id.id-index
    c.loop-id-test.true in
    omega (arith, turn.low, c.loop-id.invariant, c.args.self.now.links.short)

pub loop-id-preserved : goal.loop-id-preserved
loop-id-preserved c =
    let lane = c.args.self.now in
    let turn = link_turn lane.links lane.row lane.there c.next_ids-id-items.ensures c.loop-id.id-index
    c.loop-id-test.true in
    elim c.if-is_some.branch [
      | then-is_some w ↦
          let five = gives_some c.row_to.result _ c.is_some.ensures w.if-is_some.true c.row_to.ensures in
          omega (arith, turn.longer, five, w.words-is, c.loop-id.invariant)
      | else-is_some w ↦
          let none = ap length (gives_none c.row_to.result _ c.is_some.ensures w.if-is_some.false c.row_to.ensures) in
          omega (arith, turn.longer, none, w.words-is, c.loop-id.invariant)
    ]

pub returns : goal.returns
returns c =
    let lane = c.args.self.now in
    c.loop-id.invariant
    ∙ ap length (links_all lane.links lane.row lane.there c.next_ids-id-items.ensures c.loop-id.id-index (omega arith))
