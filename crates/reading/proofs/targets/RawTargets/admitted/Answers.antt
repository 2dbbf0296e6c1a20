use Rattle.std.proofs.Common.{◌∙◌, sym}
use Rattle.reading.proofs.TargetLaws.{targets_0, targets_1, targets_2, targets_few}
use Rattle.reading.proofs.targets.RawTargets.admitted.Goals as goal

pub returns-then-not-sized-clause-refusal : goal.returns-then-not-sized-clause-refusal
returns-then-not-sized-clause-refusal c =
    targets_1 c.args.text.now c.args.rows.now (sym c.sized.ensures ∙ c.if-not-sized.true)

pub returns-then-not-targets_fit-clause-refusal : goal.returns-then-not-targets_fit-clause-refusal
returns-then-not-targets_fit-clause-refusal c =
    targets_2 c.args.text.now c.args.rows.now (sym c.sized.ensures ∙ c.if-not-sized.false)
    (sym c.targets_fit.ensures ∙ c.if-not-targets_fit.true)

pub invariant_of-result : goal.invariant_of-result
invariant_of-result c = record {
  few = targets_few c.args.text.now c.args.rows.now
      (targets_0 c.args.text.now c.args.rows.now (sym c.sized.ensures ∙ c.if-not-sized.false)
      (sym c.targets_fit.ensures ∙ c.if-not-targets_fit.false));
}

pub returns-clause-refusal : goal.returns-clause-refusal
returns-clause-refusal c =
    targets_0 c.args.text.now c.args.rows.now (sym c.sized.ensures ∙ c.if-not-sized.false)
    (sym c.targets_fit.ensures ∙ c.if-not-targets_fit.false)
