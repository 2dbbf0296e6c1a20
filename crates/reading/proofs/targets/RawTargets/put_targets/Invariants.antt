-- `put_targets`: before turn `i` the rows below `i` are written.
use Rattle.std.proofs.Common.{◌≡◌}
use Rattle.model.specs.Lists.{gather}
use Rattle.model.specs.Reading.{part_rows}
use Rattle.model.specs.Rows.{written}
use Rattle.reading.proofs.TargetLaws.{target_at}
use Rattle.reading.proofs.targets.RawTargets.put_targets.Given as goal

abbrev pub invariant-loop-i : goal.invariant-loop-i
invariant-loop-i l =
    l.out ≡ written (gather (target_at l.self.text.now l.self.rows.now) (part_rows 0 l.i)) l.initial.out
