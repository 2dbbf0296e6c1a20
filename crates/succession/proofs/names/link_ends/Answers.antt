use Rattle.std.proofs.Common.{◌∙◌, arith}
use Rattle.succession.proofs.Fills.{ended_none, ended_more}
use Rattle.succession.proofs.names.link_ends.Goals as goal

pub loop-r-init : goal.loop-r-init
loop-r-init c = ended_none _ _ _ _

pub loop-r-preserved : goal.loop-r-preserved
loop-r-preserved c =
    ended_more _ _ _ _ c.loop-r.r _ _ c.loop-r.invariant (omega (arith, c.args.roads.now.few))
    (c.word_of.ensures ∙ c.target_row.ensures.0) (c.word_of-in-loop-r.ensures ∙ c.target_row-in-loop-r.ensures.0)
