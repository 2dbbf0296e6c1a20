use Rattle.succession.proofs.Packing.{listed_le, listed_more, listed_none, start_more, start_up}
use Rattle.succession.proofs.Spills.{counted_none, counted_then}
use Rattle.succession.specs.Packs.{id_at}
use Rattle.model.specs.Lookup.{list_part}
use lib.ListN.{length}
use Prim.Native.Nat.{◌+◌, ◌/◌}
use native.Mathlib.Omega.{arith}
use mathlib.Core.Path.{◌≡◌}
use Rattle.succession.proofs.converse.Listing.count_all.Goals as goal

pub loop-a-init : goal.loop-a-init
loop-a-init c = counted_none (λ r lr. listed_none _ _ _)

-- a count is at most the length of the lists so far, which with lane a's is at most 131072
pub count_list-requires : goal.count_list-requires
count_list-requires c =
    let me = c.args.self.now in
    let lanes = me.lanes.lanes.now in
    let offsets = me.lists.offsets.now in
    let ids = me.lists.ids.now in
    let a = c.loop-a.a in
    let so_far = c.loop-a.invariant in
    let one_more = start_more (list_part offsets ids) a in
    let below = start_up (list_part offsets ids) (a + 1) (length lanes / 10) (omega arith) in
    record {
      lanes_in_bounds = (
        omega (arith, so_far.wide, c.requires.lanes_in_bounds.0),
        λ r lr.
            let few = listed_le offsets ids (id_at lanes r) a in
            omega (
              arith,
              so_far.counts r lr,
              c.requires.lanes_in_bounds.1 r lr,
              me.few,
              few,
              one_more,
              below,
            ),
      );
    }

pub loop-a-preserved : goal.loop-a-preserved
loop-a-preserved c = counted_then c.loop-a.invariant c.count_list.ensures (λ r lr. listed_more _ _ _ c.loop-a.a)

pub returns : goal.returns
returns c =
    let past : c.loop-a.a ≡ length c.args.self.now.lanes.lanes.now / 10 = omega arith in
    rw past at c.loop-a.invariant
