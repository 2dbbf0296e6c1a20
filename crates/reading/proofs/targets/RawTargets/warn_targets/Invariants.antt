-- `warn_targets`: before turn `i` the warnings of the first `i` rows are put.
use Rattle.std.proofs.Common.{◌≤◌}
use Rattle.model.specs.Lists.{gather}
use Rattle.model.specs.Reading.{part_rows, target_warnings_at}
use Rattle.reading.specs.Laid.{Warned}
use Rattle.reading.specs.Outs.{laid}
use Rattle.reading.proofs.targets.RawTargets.warn_targets.Given as goal

abbrev pub invariant-loop-i : goal.invariant-loop-i
invariant-loop-i l = record {
  warned : Warned (gather (target_warnings_at l.self.text.now l.self.rows.now) (part_rows 0 l.i)) (laid l.initial.out)
      (laid l.out);
  few : l.out.rows ≤ l.i;
}
