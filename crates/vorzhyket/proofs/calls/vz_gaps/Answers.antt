-- `vz_gaps`: what the call answers, as a number and the rows in `written`.
use Rattle.std.proofs.Common.{ℕ, ap, arith}
use Rattle.vorzhyket.proofs.CountsFit.{gaps_counted}
use Rattle.vorzhyket.proofs.Left.{leaves}
use Rattle.vorzhyket.proofs.calls.vz_gaps.Goals as goal

pub accepted-requires : goal.accepted-requires
accepted-requires c =
    let few = rw c.in-Ok.is at (gaps_counted _ _ _ _ c.link_gaps.ensures) in
    (omega arith, (omega arith, (omega (arith, few), tt)))

pub returns-in-Ok : goal.returns-in-Ok
returns-in-Ok c =
    leaves c.link_gaps.ensures _ (rw c.in-Ok.is c.accepted.ensures)

pub returns-in-Err : goal.returns-in-Err
returns-in-Err c =
    leaves c.link_gaps.ensures _ (rw c.in-Err.is (ap (λ (k : ℕ). (k, c.args.written.now)) c.number.ensures))
