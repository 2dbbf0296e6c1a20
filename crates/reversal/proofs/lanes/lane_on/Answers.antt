-- Which road's mark changes the sign of each link, and which link comes first.
use mathlib.Core.Path.{◌≡◌, sym, ap, ◌∙◌}
use lib.ListN.{get_or}
use Rattle.model.specs.Lists.{pick}
use Rattle.words.specs.Fields.{number_read}
use Rattle.reversal.proofs.Leaves.{lane_is}
use Rattle.reversal.proofs.lanes.lane_on.Goals.{then-mark, else-mark}
use Rattle.reversal.proofs.lanes.lane_on.Goals as goal

pub returns : goal.returns
returns c =
    let onward = number_read c.turned_link-onward.result in
    let back = number_read c.turned_link-back.result in
    let links : (number_read c.if-mark.successor.0 ≡ pick c.args.mark onward back)
    × (number_read c.if-mark.successor.1 ≡ pick c.args.mark back onward) =
    elim c.if-mark.branch [
      | then-mark w ↦ (
        ap (λ q. number_read q.0) w.successor-is ∙ ap (λ m. pick m onward back) (sym w.if-mark.true),
        ap (λ q. number_read q.1) w.successor-is ∙ ap (λ m. pick m back onward) (sym w.if-mark.true),
      )
      | else-mark w ↦ (
        ap (λ q. number_read q.0) w.successor-is ∙ ap (λ m. pick m onward back) (sym w.if-mark.false),
        ap (λ q. number_read q.1) w.successor-is ∙ ap (λ m. pick m back onward) (sym w.if-mark.false),
      )
    ] in
    lane_is _ _ _ _ _ _ _ c.turned_section.ensures c.signed_by.ensures c.turned_way.ensures
    (ap (λ l. get_or l 1 0) c.ends_of.ensures) (ap (λ l. get_or l 0 0) c.ends_of.ensures) c.turned_link-onward.ensures
    c.turned_link-back.ensures links.0 links.1
