-- `fit` asks the three parts of rule 11.
use mathlib.Core.Bool.{true≢false}
use mathlib.Core.Path.{sym, ◌∙◌}
use borrow.Author.Tests.{ne_eqb}
use Rattle.std.proofs.Common.{rules, tests}
use Rattle.model.specs.Rules.{borne}
use Rattle.model.specs.Tables.{lanes_in}
use Rattle.rules.proofs.Every.{every_item}
use Rattle.gaps.proofs.Climbs.{lists_on}
use Rattle.gaps.proofs.lists.Packed.fit.Goals.{then-self-lanes, else-self-lanes}
use Rattle.gaps.proofs.lists.Packed.fit.Goals as goal

pub returns-then-offsets_climb : goal.returns-then-offsets_climb
returns-then-offsets_climb c =
    let lanes = c.args.lanes.now.lanes.now in
    let all_borne =
    every_item c.args.self.now.ids.now (borne (lanes_in lanes)) c.all.ensures.ran c.iter.ensures.rest
    (λ x b q called. search (rules, tests)) in
    elim c.if-self-lanes.branch [
      | then-self-lanes w ↦
          lists_on lanes c.args.self.now.offsets.now c.args.self.now.ids.now w.if-self-lanes.true
          w.offsets_climb.ensures (sym w.value-is ∙ c.if-offsets_climb.true) all_borne
      | else-self-lanes w ↦
          absurd (true≢false (sym c.if-offsets_climb.true ∙ w.value-is ∙ ne_eqb _ _ w.if-self-lanes.false))
    ]
