use Rattle.std.proofs.Common.{◌≡◌, ◌/◌, arith, length}
use Rattle.model.specs.Reading.{target_warnings, target_warnings_at}
use Rattle.reading.specs.Outs.{laid}
use Rattle.reading.proofs.RunLaws.{run_none, warned_turn}
use Rattle.reading.proofs.targets.RawTargets.warn_targets.Goals as goal

pub loop-i-init : goal.loop-i-init
loop-i-init c = record { warned = run_none 4 (laid c.args.out.now); few = omega arith }

pub loop-i-preserved : goal.loop-i-preserved
loop-i-preserved c =
    let i = c.loop-i.i in
    let text = c.args.self.now.text.now in
    let raw = c.args.self.now.rows.now in
    let inv = c.loop-i.invariant in
    let one = c.warn_target.ensures in
    record {
      warned = warned_turn (target_warnings_at text raw) i inv.warned one.warned;
      few = omega (arith, inv.few, one.few);
    }

pub returns-clause-warned : goal.returns-clause-warned
unfolding target_warnings
returns-clause-warned c =
    let past : c.loop-i.i ≡ length c.args.self.now.rows.now / 9 = omega arith in
    rw past at c.loop-i.invariant.warned
