use Rattle.std.proofs.Common.{ap, arith}
use Rattle.model.specs.Rows.{parts_fit, table}
use Rattle.rules.proofs.Fits.{parts_elsewhere, parts_end, parts_more, parts_past}
use Rattle.rules.proofs.parts.parts_fit.Goals.{then-word-at-via-then-word-at, then-word-at-via-else-word-at+then-n-at}
use Rattle.rules.proofs.parts.parts_fit.Goals as goal

pub loop-row-init : goal.loop-row-init
loop-row-init c = record {
  inside = omega arith;
  wide = cc;
  left = ap (λ rest. parts_fit c.args.kf c.args.kc 0 c.args.n (table c.args.w rest)) (cc);
}

pub returns-then-word-at : goal.returns-then-word-at
returns-then-word-at c =
    let steps = c.in-Some.ensures.steps in
    elim c.then-word-at.branch [
      | then-word-at-via-then-word-at w ↦
          parts_elsewhere c.loop-row.invariant c.requires.0 c.in-Some.row.now _ steps.1 c.word.ensures.0
          c.word-count.ensures.0 w.if-word-at.true
      | then-word-at-via-else-word-at+then-n-at w ↦
          parts_past c.loop-row.invariant c.requires.0 c.in-Some.row.now _ steps.1 c.word.ensures.0
          c.word-count.ensures.0 w.if-n-at.true
    ]

pub loop-row-preserved : goal.loop-row-preserved
loop-row-preserved c =
    let steps = c.in-Some.ensures.steps in
    parts_more c.loop-row.invariant c.requires.0 c.in-Some.row.now _ steps.1 c.word.ensures.0 c.word-count.ensures.0
    steps.0 c.if-word-at.false c.if-n-at.false

pub returns : goal.returns
returns c = let steps = c.in-None.ensures.steps in parts_end c.loop-row.invariant c.requires.0 steps.1.0
