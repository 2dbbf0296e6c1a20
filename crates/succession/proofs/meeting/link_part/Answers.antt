use Rattle.std.proofs.Common.{ap, arith}
use Rattle.succession.proofs.Homes.{part_turn}
use Rattle.succession.proofs.meeting.link_part.Goals as goal

pub loop-c-preserved : goal.loop-c-preserved
loop-c-preserved c = (
  omega arith,
  part_turn _ _ c.args.n c.args.j c.loop-c.c c.requires.j_bound.1 c.requires.n_bound.1 (omega arith) (omega arith)
      c.requires.j_bound.0 _ _ c.loop-c.invariant.1 c.bucket.ensures.0 c.bucket.ensures.1 c.requires.n_bound.0
      (omega arith) (ap (λ k. k.heads) c.link.ensures) (ap (λ k. k.next) c.link.ensures),
)
