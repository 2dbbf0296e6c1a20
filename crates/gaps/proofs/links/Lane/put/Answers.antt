use mathlib.Core.List.{append-nil}
use mathlib.Core.Path.{sym, ap, ◌∙◌}
use native.Mathlib.Omega.{arith}
use lib.ListN.{length}
use Rattle.words.specs.Rows.{spliced}
use Rattle.gaps.proofs.LinkLaws.{link_turn, links_all, links_none}
use Rattle.gaps.proofs.Puts.{put_nothing, put_turn}
use Rattle.gaps.proofs.links.Lane.put.Goals.{in-Some, in_default}
use Rattle.gaps.proofs.links.Lane.put.Goals as goal

pub loop-id-init : goal.loop-id-init
loop-id-init c = rw (sym (links_none c.args.self.now.links c.args.self.now.row)) put_nothing

pub row_to-requires : goal.row_to-requires
row_to-requires c =
    let lane = c.args.self.now in
    let turn = link_turn lane.links lane.row lane.there c.next_ids-id-items.ensures c.loop-id.id-index
    c.loop-id-test.true in
    turn.borne

pub put-requires : goal.put-requires
put-requires c =
    let lane = c.args.self.now in
    let turn = link_turn lane.links lane.row lane.there c.next_ids-id-items.ensures c.loop-id.id-index
    c.loop-id-test.true in
    let given = ap length (rw c.in-Some.is at c.row_to.ensures).0 in
    omega (arith, turn.longer, turn.within, given, c.loop-id.invariant.count_is, c.loop-id.auto.out, c.requires)

pub overflow_add-at : goal.overflow_add-at
overflow_add-at c =
    let lane = c.args.self.now in
    let turn = link_turn lane.links lane.row lane.there c.next_ids-id-items.ensures c.loop-id.id-index
    c.loop-id-test.true in
    let five = (rw c.in-Some.is at c.row_to.ensures).1 in
    omega (arith, turn.longer, turn.within, five, c.loop-id.invariant.count_is, c.requires)

pub loop-id-preserved : goal.loop-id-preserved
loop-id-preserved c =
    let lane = c.args.self.now in
    let turn = link_turn lane.links lane.row lane.there c.next_ids-id-items.ensures c.loop-id.id-index
    c.loop-id-test.true in
    elim c.match-row_to.branch [
      | in-Some w ↦
          let given = rw w.in-Some.is at c.row_to.ensures in
          put_turn _ turn.more (omega (arith, turn.within, c.requires)) c.loop-id.invariant
          (w.out-is ∙ w.put.ensures ∙ ap (λ row. spliced c.loop-id.at row c.loop-id.out) given.0)
          (omega (arith, given.1, w.at-is))
      | in_default w ↦
          let none = rw w.in_default.is at c.row_to.ensures in
          rw (w.out-is, w.at-is, turn.more, none, append-nil) c.loop-id.invariant
    ]

pub returns : goal.returns
returns c =
    let lane = c.args.self.now in
    rw (sym (links_all lane.links lane.row lane.there c.next_ids-id-items.ensures c.loop-id.id-index (omega arith)))
    c.loop-id.invariant
