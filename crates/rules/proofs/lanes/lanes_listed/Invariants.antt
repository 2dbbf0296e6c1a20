use Rattle.rules.proofs.Forms.{Listing}
use Rattle.rules.proofs.lanes.lanes_listed.Given as goal

abbrev pub invariant-loop-i : goal.invariant-loop-i
invariant-loop-i l =
    Listing l.roads.text.now l.roads.rows.now l.sections.sections.now l.lanes l.owner l.every l.i
