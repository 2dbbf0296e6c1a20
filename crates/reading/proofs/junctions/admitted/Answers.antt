use Rattle.std.proofs.Common.{◌∙◌, sym}
use Rattle.reading.specs.Read.{tables_read}
use Rattle.reading.proofs.CallLaws.{junctions_0, junctions_1, junctions_2, junctions_5, ready}
use Rattle.reading.proofs.junctions.admitted.Goals as goal

pub returns-then-not-sized-clause-refusal : goal.returns-then-not-sized-clause-refusal
returns-then-not-sized-clause-refusal c =
    junctions_1 (tables_read c.args.raw.now) (sym c.sized.ensures ∙ c.if-not-sized.true)

pub returns-then-not-named-clause-refusal : goal.returns-then-not-named-clause-refusal
returns-then-not-named-clause-refusal c =
    junctions_2 (tables_read c.args.raw.now) (sym c.sized.ensures ∙ c.if-not-sized.false)
    (sym c.named.ensures ∙ c.if-not-named.true)

pub returns-then-not-parted-clause-refusal : goal.returns-then-not-parted-clause-refusal
returns-then-not-parted-clause-refusal c =
    junctions_5 (tables_read c.args.raw.now) (sym c.sized.ensures ∙ c.if-not-sized.false)
    (sym c.named.ensures ∙ c.if-not-named.false) (sym c.parted.ensures ∙ c.if-not-parted.true)

pub invariant_of-result : goal.invariant_of-result
invariant_of-result c = record {
  ready = ready (tables_read c.args.raw.now)
      (junctions_0 (tables_read c.args.raw.now) (sym c.sized.ensures ∙ c.if-not-sized.false)
      (sym c.named.ensures ∙ c.if-not-named.false) (sym c.parted.ensures ∙ c.if-not-parted.false));
}

pub returns-clause-refusal : goal.returns-clause-refusal
returns-clause-refusal c =
    junctions_0 (tables_read c.args.raw.now) (sym c.sized.ensures ∙ c.if-not-sized.false)
    (sym c.named.ensures ∙ c.if-not-named.false) (sym c.parted.ensures ∙ c.if-not-parted.false)
