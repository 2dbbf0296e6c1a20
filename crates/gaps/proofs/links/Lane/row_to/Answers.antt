use Prim.Native.Nat.{◌/◌}
use mathlib.Core.Path.{refl, subst}
use native.Mathlib.Omega.{arith}
use lib.ListN.{length}
use Rattle.words.specs.Keys.{is_id}
use Rattle.words.proofs.Chains.{last_le}
use Rattle.gaps.specs.Lent.{Gives}
use Rattle.gaps.proofs.LinkLaws.{link_row_lem}
use Rattle.gaps.proofs.links.Lane.row_to.Goals as goal

pub row_of-requires : goal.row_of-requires
row_of-requires c =
    let lanes = c.args.self.now.links.lanes.lanes.now in
    let most = last_le (length lanes / 10) (is_id lanes c.args.id.0) in
    omega (arith, c.in_ok-lane_row.ensures)

pub returns : goal.returns
returns c =
    let links = c.args.self.now.links in
    subst (Gives c.row_of.result)
    (link_row_lem links.lanes.lanes.now links.edges.now c.args.self.now.row c.args.id.0 c.in_ok-lane_row.ensures refl
    refl)
    c.row_of.ensures
