use Rattle.std.proofs.Common.{◌∙◌, arith}
use Rattle.words.proofs.Chains.{found_le}
use Rattle.rules.specs.ByRow.{road_row_of}
use Rattle.succession.proofs.Fills.{sided_none, sided_more}
use Rattle.succession.proofs.names.link_sides.Goals as goal

pub loop-c-init : goal.loop-c-init
loop-c-init c = sided_none _ _ _ _

pub word_of-requires : goal.word_of-requires
word_of-requires c = omega (arith, found_le _ _ c.find.ensures, c.args.roads.now.few)

pub word_of-requires-in-loop-c : goal.word_of-requires-in-loop-c
word_of-requires-in-loop-c c = omega (arith, found_le _ _ c.find-in-loop-c.ensures, c.args.roads.now.few)

pub loop-c-preserved : goal.loop-c-preserved
unfolding road_row_of
loop-c-preserved c =
    sided_more _ _ _ _ c.loop-c.c _ _ c.loop-c.invariant (omega arith)
    (rw c.at.ensures at (c.word_of.ensures ∙ c.find.ensures))
    (rw c.at-in-loop-c.ensures at (c.word_of-in-loop-c.ensures ∙ c.find-in-loop-c.ensures))
