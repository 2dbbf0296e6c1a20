-- `read_targets`: refused as its raw targets are, or for an output that is too short; or all rows are written.
use Rattle.std.proofs.Common.{◌/◌, List, ℕ, ◌∙◌, ap, length, sym}
use Rattle.std.proofs.lemmas.Result.{err_from_is_err_and}
use borrow.Author.Tests.{leb-true}
use Rattle.model.specs.ReadingCalls.{read_targets_call, target_content, target_rules, target_writing}
use Rattle.words.proofs.Scans.{left_on}
use Rattle.reading.specs.TargetAnswers.{outputs}
use Rattle.tables.proofs.Called.{call_admitted, call_refused}
use Rattle.reading.proofs.TargetLaws.{targets_short, targets_written}
use Rattle.reading.proofs.targets.read_targets.Goals as goal

pub returns-in_err-targets : goal.returns-in_err-targets
unfolding read_targets_call
returns-in_err-targets c =
    let text = c.args.text.now in
    let raw = c.args.raw.now in
    let outs = outputs c.args.targets_out.now c.args.warnings_out.now in
    let p = err_from_is_err_and c.from_residual.result c.from_residual.ensures.1 in
    rw (p.1, p.2) (call_refused target_writing (target_rules text raw) (target_content text raw) outs _
    c.in_err-targets.ensures.refusal)

pub returns-then-not-fit : goal.returns-then-not-fit
unfolding read_targets_call
returns-then-not-fit c =
    let text = c.args.text.now in
    let raw = c.args.raw.now in
    let outs = outputs c.args.targets_out.now c.args.warnings_out.now in
    let same = c.in_ok-targets.ensures.same in
    let short = sym (rw (same.0, same.1) at c.fit.ensures) ∙ c.if-not-fit.true in
    targets_short text raw c.args.targets_out.now c.args.warnings_out.now short
    ∙ call_admitted target_writing (target_rules text raw) (target_content text raw) outs
    c.in_ok-targets.ensures.refusal

pub put_targets-requires : goal.put_targets-requires
put_targets-requires c = leb-true _ _ (left_on _ _ (sym c.fit.ensures ∙ c.if-not-fit.false))

pub returns : goal.returns
unfolding read_targets_call
returns c =
    let text = c.args.text.now in
    let raw = c.args.raw.now in
    let outs = outputs c.args.targets_out.now c.args.warnings_out.now in
    let same = c.in_ok-targets.ensures.same in
    let enough = sym (rw (same.0, same.1) at c.fit.ensures) ∙ c.if-not-fit.false in
    let put = rw (same.0, same.1) at c.put_targets.ensures in
    let warned = rw (same.0, same.1) at c.put_warnings.ensures.warned in
    let count = c.count.ensures.0 ∙ ap (λ (rows : List ℕ). length rows / 9) same.1 in
    rw count (targets_written text raw c.args.targets_out.now c.args.warnings_out.now enough put warned)
    ∙ call_admitted target_writing (target_rules text raw) (target_content text raw) outs
    c.in_ok-targets.ensures.refusal
