-- The counts before turn i are written.
use Rattle.std.proofs.Common.{◌≡◌, length, take}
use Rattle.vorzhyket.proofs.answers.accepted.Given as goal

abbrev pub invariant-loop-i : goal.invariant-loop-i
invariant-loop-i g l = record {
  long : length l.written ≡ length l.counts;
  same : take l.i l.written ≡ take l.i l.counts;
}
