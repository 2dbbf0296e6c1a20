use Rattle.std.proofs.Common.{◌-◌, arith}
use Rattle.succession.proofs.Homes.{chains_begin, chains_end, end_before, end_in, first_is, homes_are}
use Rattle.succession.proofs.meeting.link_connections.Goals as goal

pub loop-j-init : goal.loop-j-init
loop-j-init c = chains_begin _ _ c.requires.parts _ _ _ c.clear.ensures

pub link_part-requires-clause-j_bound : goal.link_part-requires-clause-j_bound
link_part-requires-clause-j_bound c =
    (end_in _ _ c.requires.parts _ (omega (arith, c.loop-j.auto.j)), homes_are _ _ c.requires.parts)

pub link_part-requires-clause-chained : goal.link_part-requires-clause-chained
link_part-requires-clause-chained c =
    rw (end_before _ _ c.requires.parts c.loop-j.j (omega arith) (omega (arith, c.loop-j.auto.j))) c.loop-j.invariant

pub loop-j-preserved : goal.loop-j-preserved
loop-j-preserved c =
    rw (first_is _ _ c.requires.parts (c.loop-j.j - 1) (omega (arith, c.loop-j.auto.j))) at c.link_part.ensures

pub returns : goal.returns
returns c = record {
  few = c.requires.few.0;
  few_junctions = c.requires.few.1;
  homes = homes_are _ _ c.requires.parts;
  buckets = c.loop-j.invariant.buckets;
  links = omega (arith, c.requires.few.0, c.loop-j.invariant.rows);
  chained = chains_end _ _ c.requires.parts _ _ _ c.loop-j.j (omega arith) c.loop-j.invariant;
}
