use mathlib.Core.Path.{refl, sym, ◌∙◌}
use Rattle.std.proofs.Common.{rules, tests}
use Rattle.std.proofs.lemmas.List.Sorted.{non_decreasing_from_is_sorted}
use Rattle.gaps.proofs.Climbs.{begins_is, climbs_falls, climbs_off, climbs_on, ends_is}
use Rattle.gaps.proofs.lists.offsets_climb.Goals.{then-eq, else-eq}
use Rattle.gaps.proofs.lists.offsets_climb.Goals as goal

pub returns-then-is_sorted : goal.returns-then-is_sorted
returns-then-is_sorted c =
    let os = c.args.offsets.now in
    let first = begins_is os c.first.result _ refl c.first.ensures.value c.eq.ensures in
    let last = ends_is c.args.end os c.last.result c.last.ensures.value
    (λ e. rw e at c.is_some_and.ensures) (λ x e. let at = rw e at c.is_some_and.ensures in search (rules, tests)) in
    elim c.if-eq.branch [
      | then-eq w ↦
          let sorted = non_decreasing_from_is_sorted os w.is_sorted.result w.is_sorted.ensures.cases in
          let up = rw (sym w.value-is ∙ c.if-is_sorted.true) at sorted in
          last ∙ climbs_on c.args.end os (sym first ∙ w.if-eq.true) up
      | else-eq w ↦ absurd (cc)
    ]

pub returns-else-is_sorted : goal.returns-else-is_sorted
returns-else-is_sorted c =
    let os = c.args.offsets.now in
    let first = begins_is os c.first.result _ refl c.first.ensures.value c.eq.ensures in
    elim c.if-eq.branch [
      | then-eq w ↦
          let sorted = non_decreasing_from_is_sorted os w.is_sorted.result w.is_sorted.ensures.cases in
          let down = rw (sym w.value-is ∙ c.if-is_sorted.false) at sorted in
          c.if-is_sorted.false ∙ climbs_falls c.args.end os down.0 down.1 (down.2 0)
      | else-eq w ↦ c.if-is_sorted.false ∙ climbs_off c.args.end os (sym first ∙ w.if-eq.false)
    ]
