-- `vz_read_targets`: what the call answers, as a number and the rows in `written`.
use Rattle.std.proofs.Common.{ℕ, ap, arith}
use Rattle.vorzhyket.proofs.ReadingFits.{targets_counted}
use Rattle.vorzhyket.proofs.Left.{leaves}
use Rattle.vorzhyket.proofs.readings.vz_read_targets.Goals as goal

pub accepted-requires : goal.accepted-requires
accepted-requires c =
    let few = rw c.in-Ok.is at (targets_counted _ _ _ c.read_targets.ensures) in
    (omega arith, (omega arith, (omega (arith, few), (omega (arith, few), tt))))

pub returns-in-Ok : goal.returns-in-Ok
returns-in-Ok c =
    leaves c.read_targets.ensures _ (rw c.in-Ok.is c.accepted.ensures)

pub returns-in-Err : goal.returns-in-Err
returns-in-Err c =
    leaves c.read_targets.ensures _ (rw c.in-Err.is (ap (λ (k : ℕ). (k, c.args.written.now)) c.number.ensures))
