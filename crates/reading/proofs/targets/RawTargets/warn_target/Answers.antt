use Rattle.std.proofs.Common.{◌/◌, ◌%◌, ◌∙◌, refl, sym}
use Rattle.model.specs.Reading.{target_loose}
use Rattle.reading.specs.Outs.{laid}
use Rattle.reading.proofs.RunLaws.{run_as, warned_off, warned_on}
use Rattle.reading.proofs.targets.RawTargets.warn_target.Goals as goal

pub returns-then-is_loose-clause-warned : goal.returns-then-is_loose-clause-warned
returns-then-is_loose-clause-warned c =
    warned_on (target_loose (c.args.i / 2) (c.args.i % 2)) (sym c.is_loose.ensures ∙ c.if-is_loose.true)
    (run_as c.put.ensures.put c.row.ensures refl)

pub returns-else-is_loose-clause-warned : goal.returns-else-is_loose-clause-warned
returns-else-is_loose-clause-warned c =
    warned_off (target_loose (c.args.i / 2) (c.args.i % 2)) (laid c.args.out.now)
    (sym c.is_loose.ensures ∙ c.if-is_loose.false)
