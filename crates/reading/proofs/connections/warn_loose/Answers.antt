use Rattle.std.proofs.Common.{◌∙◌, refl, sym}
use Rattle.model.specs.Reading.{connection_loose}
use Rattle.reading.specs.Outs.{laid}
use Rattle.reading.proofs.RunLaws.{run_as, warned_off, warned_on}
use Rattle.reading.proofs.connections.warn_loose.Goals as goal

pub returns-then-is_loose-clause-warned : goal.returns-then-is_loose-clause-warned
returns-then-is_loose-clause-warned c =
    warned_on (connection_loose c.args.j c.args.c) (sym c.is_loose.ensures ∙ c.if-is_loose.true)
    (run_as c.put.ensures.put c.row.ensures refl)

pub returns-else-is_loose-clause-warned : goal.returns-else-is_loose-clause-warned
returns-else-is_loose-clause-warned c =
    warned_off (connection_loose c.args.j c.args.c) (laid c.args.warnings.now)
    (sym c.is_loose.ensures ∙ c.if-is_loose.false)
