use Rattle.std.proofs.Common.{◌∙◌, ap, arith}
use Rattle.std.proofs.Math.Option.{some}
use Rattle.model.specs.Lists.{map_o}
use Rattle.model.specs.Reversal.{negated}
use Rattle.reading.proofs.NumberLaws.{number_minus, number_none, number_plain, number_plus}
use Rattle.reading.proofs.numbers.lane_number.Goals as goal

pub returns-in_err-sign : goal.returns-in_err-sign
returns-in_err-sign c = rw c.from_residual.ensures (number_none c.args.bytes.now c.in_err-sign.ensures.cases)

pub returns-in-43 : goal.returns-in-43
returns-in-43 c = c.digits-in-43.ensures ∙ number_plus c.in_ok-sign.ensures.cases.0 c.in-43.is

pub returns-in_default : goal.returns-in_default
returns-in_default c =
    c.digits-in_default.ensures
    ∙ number_plain c.in_ok-sign.ensures.cases.0 (λ e. omega arith) (λ e. omega arith)

pub returns-in_err-digits-in-45 : goal.returns-in_err-digits-in-45
returns-in_err-digits-in-45 c =
    rw c.from_residual-in_err-digits-in-45.ensures
    (ap (map_o negated) c.in_err-digits-in-45.ensures ∙ number_minus c.in_ok-sign.ensures.cases.0 c.in-45.is)

pub returns-in_ok-digits-in-45 : goal.returns-in_ok-digits-in-45
returns-in_ok-digits-in-45 c =
    ap some c.negate.ensures
    ∙ ap (map_o negated) c.in_ok-digits-in-45.ensures
    ∙ number_minus c.in_ok-sign.ensures.cases.0 c.in-45.is
