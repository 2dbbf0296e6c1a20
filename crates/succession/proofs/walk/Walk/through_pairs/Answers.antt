use Rattle.std.proofs.Common.{refl, arith}
use Rattle.succession.specs.ByRow.{pair_by_row, pairs_by_row}
use Rattle.succession.specs.Read.{read_of}
use Rattle.succession.proofs.Growth.{turns_begin, turns_end, turns_on, turns_room}
use Rattle.succession.proofs.walk.Walk.through_pairs.Goals as goal

pub loop-p-init : goal.loop-p-init
unfolding pairs_by_row
loop-p-init c =
    rw c.word-first.ensures.0
    (turns_begin _ _ (pair_by_row (read_of c.args.self.now) c.args.c c.args.k) _ c.requires.room _ refl)

pub through_pair-requires-clause-room : goal.through_pair-requires-clause-room
unfolding pairs_by_row
through_pair-requires-clause-room c =
    let section = rw (c.row_in.ensures, c.flag-at_end.ensures) at c.end_section-section.ensures in
    let taken = rw c.word-first.ensures.0 at c.loop-p.invariant in
    rw (c.flag-at_end.ensures, section)
    (turns_room _ _ (pair_by_row (read_of c.args.self.now) c.args.c c.args.k) _ c.requires.room c.loop-p.p _ taken
    (omega (arith, c.loop-p.auto)) (omega arith))

pub loop-p-preserved : goal.loop-p-preserved
unfolding pairs_by_row
loop-p-preserved c =
    let section = rw (c.row_in.ensures, c.flag-at_end.ensures) at c.end_section-section.ensures in
    let taken = rw c.word-first.ensures.0 at c.loop-p.invariant in
    rw c.word-first.ensures.0
    (turns_on _ _ (pair_by_row (read_of c.args.self.now) c.args.c c.args.k) _ c.requires.room c.loop-p.p _ taken
    (omega (arith, c.loop-p.auto)) (omega arith) _ (rw (c.flag-at_end.ensures, section) at c.through_pair.ensures))

pub returns : goal.returns
unfolding pairs_by_row
returns c =
    turns_end _ _ (pair_by_row (read_of c.args.self.now) c.args.c c.args.k) _ c.requires.room c.loop-p.p _
    (rw c.word-first.ensures.0 at c.loop-p.invariant) (omega (arith, c.loop-p.auto))
