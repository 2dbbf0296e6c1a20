-- The lane's own list is copied, and for a two-way lane the links back are put in.
use Rattle.succession.proofs.Backs.{copied, finish_back, finish_least, finish_plain, finish_room}
use Rattle.succession.specs.Runs.{Rising}
use Rattle.words.proofs.Laws.{written_length}
use lib.ListN.{length}
use Prim.Native.Nat.{◌≤◌}
use native.Mathlib.Omega.{arith}
use mathlib.Core.Path.{sym, ap, ◌∙◌, subst}
use Rattle.succession.proofs.back.Found.finish.Goals as goal

-- the own list is no longer than the finished one, so it fits
pub copy-requires : goal.copy-requires
copy-requires c =
    let me = c.args.self.now in
    omega (arith, finish_least me.lanes.lanes.now me.mine.now me.finders.now me.row, c.requires)

pub returns-then-not-two_way : goal.returns-then-not-two_way
returns-then-not-two_way c =
    finish_plain _ _ _ _ _ c.copy.ensures (sym c.two_way.ensures ∙ c.if-not-two_way.true)

pub take_back-requires : goal.take_back-requires
take_back-requires c =
    let me = c.args.self.now in
    let lanes = me.lanes.lanes.now in
    let mine = me.mine.now in
    let finders = me.finders.now in
    let fits : length mine ≤ length c.args.run.now =
    omega (arith, finish_least lanes mine finders me.row, c.requires) in
    let same = ap length c.copy.ensures ∙ written_length mine c.args.run.now fits in
    let as_long =
    finish_room lanes mine finders me.row _ c.copy.ensures (sym c.two_way.ensures ∙ c.if-not-two_way.false) in
    record {
      rising = subst Rising (sym (copied lanes mine finders me.row _ c.copy.ensures)) me.rising;
      begun = omega (arith, same, fits);
      room = omega (arith, same, as_long, c.requires);
    }

pub returns : goal.returns
returns c =
    finish_back _ _ _ _ _ c.copy.ensures (sym c.two_way.ensures ∙ c.if-not-two_way.false) c.take_back.ensures
