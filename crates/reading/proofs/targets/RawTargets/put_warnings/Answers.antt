use Rattle.std.proofs.Common.{rules}
use Rattle.reading.proofs.RunLaws.{output_as}
use Rattle.reading.proofs.targets.RawTargets.put_warnings.Goals as goal

pub returns-clause-warned : goal.returns-clause-warned
returns-clause-warned c =
    let warned = c.warn_targets.ensures.warned in
    let same = warned.same in
    output_as warned c.over-warnings.ensures.1 c.over-warnings.ensures.2 (search rules)
