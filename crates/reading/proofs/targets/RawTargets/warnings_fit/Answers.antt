-- `warnings_fit`: there is room for a warning of each target, or for those that there are.
use Rattle.std.proofs.Common.{ℕ, ◌∙◌, ap, arith, leb, sym}
use borrow.Author.Tests.{le-leb}
use Rattle.reading.proofs.TargetLaws.{warned_length, warnings_few}
use Rattle.reading.proofs.targets.RawTargets.warnings_fit.Goals as goal

pub returns-then-count-room : goal.returns-then-count-room
returns-then-count-room c =
    let few = warnings_few c.args.self.now.text.now c.args.self.now.rows.now in
    le-leb _ c.args.room (omega (arith, c.if-count-room.true))
    ∙ sym (le-leb _ c.args.room (omega (arith, c.if-count-room.true)))

pub returns-else-count-room : goal.returns-else-count-room
returns-else-count-room c =
    let words = warned_length c.args.self.now.text.now c.args.self.now.rows.now c.put_warnings.ensures.warned in
    sym (ap (λ (n : ℕ). leb n c.args.room) words)
