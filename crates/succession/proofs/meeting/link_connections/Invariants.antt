use Rattle.succession.specs.Meeting.{ChainedFrom}
use Rattle.succession.proofs.Homes.{start_at}
use Rattle.succession.proofs.meeting.link_connections.Given as goal

abbrev pub invariant-loop-j : goal.invariant-loop-j
invariant-loop-j l = ChainedFrom l.junctions l.sides l.n (start_at l.junctions l.j) l.chain.heads l.chain.next
