use Rattle.succession.proofs.Packing.{one_of}
use Rattle.succession.specs.Finished.{finished_at, finished_from}
use Rattle.succession.specs.Runs.{Rising}
use native.Mathlib.Omega.{arith}
use mathlib.Core.List.{List}
use mathlib.Core.Path.{◌≡◌, sym, ap, subst}
use Prim.Native.Nat.{ℕ, ◌/◌}
use lib.ListN.{length}
use Rattle.succession.proofs.back.AllFound.lane.Goals as goal

pub invariant_of-result : goal.invariant_of-result
invariant_of-result c =
    let me = c.args.self.now in
    let lanes = me.lanes.lanes.now in
    let onward : ℕ → List ℕ =
    finished_at lanes me.own.offsets.now me.own.ids.now me.finders.offsets.now me.finders.ids.now in
    let list_is : finished_from lanes c.list.result.now c.list-2.result.now c.args.row ≡ onward c.args.row = cc in
    record {
      inside = c.requires;
      rising = subst Rising (sym c.list.ensures) (me.rise c.args.row c.requires);
      few = omega (arith, ap length list_is, one_of onward c.args.row (length lanes / 10) c.requires, me.few);
    }
