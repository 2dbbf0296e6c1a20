use Rattle.std.proofs.Common.{◌≤◌}
use Rattle.succession.specs.Meeting.{ChainedFrom}
use Rattle.succession.proofs.meeting.link_part.Given as goal

abbrev pub invariant-loop-c : goal.invariant-loop-c
invariant-loop-c l = (l.first ≤ l.c) × ChainedFrom l.junctions l.sides l.n l.c l.chain.heads l.chain.next
