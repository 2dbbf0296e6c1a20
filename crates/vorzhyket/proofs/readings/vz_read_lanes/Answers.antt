-- `vz_read_lanes`: what the call answers, as a number and the rows in `written`.
use Rattle.std.proofs.Common.{ℕ, ap, arith}
use Rattle.vorzhyket.proofs.ReadingFits.{lanes_counted}
use Rattle.vorzhyket.proofs.Left.{leaves}
use Rattle.vorzhyket.proofs.readings.vz_read_lanes.Goals as goal

pub accepted-requires : goal.accepted-requires
accepted-requires c = (omega arith, (omega arith, rw c.in-Ok.is at (lanes_counted _ _ _ c.read_lanes.ensures)))

pub returns-in-Ok : goal.returns-in-Ok
returns-in-Ok c =
    leaves c.read_lanes.ensures _ (rw c.in-Ok.is c.accepted.ensures)

pub returns-in-Err : goal.returns-in-Err
returns-in-Err c =
    leaves c.read_lanes.ensures _ (rw c.in-Err.is (ap (λ (k : ℕ). (k, c.args.written.now)) c.number.ensures))
