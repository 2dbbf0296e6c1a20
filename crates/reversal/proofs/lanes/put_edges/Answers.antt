use native.Mathlib.Nat.{le_refl}
use native.Mathlib.Omega.{arith}
use lib.ListN.{length}
use Rattle.words.proofs.Joins.{row_room}
use Rattle.reversal.proofs.Leaves.{edges_12}
use Rattle.reversal.proofs.Writers.{row_fits, wrote_all, wrote_none, wrote_row}
use Rattle.reversal.proofs.lanes.put_edges.Goals as goal

pub loop-i-init : goal.loop-i-init
loop-i-init c = wrote_none

pub edges_of-requires : goal.edges_of-requires
edges_of-requires c = (
  omega (arith, c.loop-i-test.true, c.requires.even),
  row_room (length c.args.edges.now) 12 _ _ c.loop-i-test.true (le_refl _),
)

pub put-requires : goal.put-requires
put-requires c =
    row_fits 12 (edges_12 _ _ _) c.requires.room c.loop-i.invariant c.loop-i-test.true c.edges_of.ensures

pub loop-i-preserved : goal.loop-i-preserved
loop-i-preserved c =
    wrote_row 12 (edges_12 _ _ _) c.requires.room c.loop-i.invariant c.loop-i-test.true c.edges_of.ensures
    c.put.ensures c.put.auto.out

pub returns : goal.returns
returns c = wrote_all c.loop-i.invariant c.loop-i-test.false
