-- `vz_succession`: what the call answers, as a number and the rows in `written`.
use Rattle.std.proofs.Common.{ℕ, ap, arith}
use Rattle.vorzhyket.proofs.CountsFit.{succession_counted}
use Rattle.vorzhyket.proofs.Left.{leaves_given}
use Rattle.vorzhyket.proofs.calls.vz_succession.Goals as goal

pub accepted-requires : goal.accepted-requires
accepted-requires c =
    let few = rw c.in-Ok.is at (succession_counted _ _ c.succession.ensures.outcome) in
    (omega arith, (omega arith, (omega (arith, few), (omega (arith, few), (omega (arith, few), (omega (arith, few), tt))))))

pub returns-in-Ok : goal.returns-in-Ok
returns-in-Ok c =
    leaves_given c.succession.ensures.outcome c.args.written.now (rw c.in-Ok.is c.accepted.ensures) (search arith)

pub returns-in-Err : goal.returns-in-Err
returns-in-Err c =
    leaves_given c.succession.ensures.outcome c.args.written.now
    (rw c.in-Err.is (ap (λ (k : ℕ). (k, c.args.written.now)) c.number.ensures)) (search arith)
