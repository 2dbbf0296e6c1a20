use Rattle.succession.proofs.Backs.{back_count, back_is, plain_is}
use Rattle.succession.specs.Found.{wanted_by}
use Rattle.std.specs.List.{count_by}
use Rattle.std.proofs.Common.{rules}
use lib.ListN.{length}
use native.Mathlib.Omega.{arith}
use mathlib.Core.Path.{◌≡◌, sym, ap, ◌∙◌}
use Prim.Native.Nat.{◌+◌}
use Rattle.succession.proofs.back.Found.count.Goals as goal

pub returns-then-not-two_way : goal.returns-then-not-two_way
returns-then-not-two_way c = ap length (sym (plain_is _ _ _ _ (sym c.two_way.ensures ∙ c.if-not-two_way.true)))

pub overflow_add-result : goal.overflow_add-result
overflow_add-result c =
    let me = c.args.self.now in
    let counted : c.count-back.result ≡ count_by (wanted_by me) me.finders.now = search rules in
    let all = back_is me.lanes.lanes.now me.mine.now me.finders.now me.row
    (sym c.two_way.ensures ∙ c.if-not-two_way.false) in
    omega (arith, counted, back_count (wanted_by me) me.finders.now me.mine.now, ap length all, me.few)

pub returns : goal.returns
returns c =
    let me = c.args.self.now in
    let counted : c.count-back.result ≡ count_by (wanted_by me) me.finders.now = search rules in
    ap (λ k. length me.mine.now + k) counted
    ∙ sym (back_count _ me.finders.now me.mine.now)
    ∙ ap length (sym (back_is _ _ _ _ (sym c.two_way.ensures ∙ c.if-not-two_way.false)))
