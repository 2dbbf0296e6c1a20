-- 13 is asked of the lanes, and then of the pairs.
use Rattle.std.proofs.Common.{rules}
use Rattle.model.specs.Rules.{numbers_fine}
use Rattle.model.specs.Tables.{lanes_in, pairs_in}
use Rattle.tables.proofs.verdict.numbers_turn.Goals as goal

pub returns-then-lanes_turn : goal.returns-then-lanes_turn
unfolding numbers_fine lanes_in pairs_in
returns-then-lanes_turn c = search rules

pub returns-else-lanes_turn : goal.returns-else-lanes_turn
unfolding numbers_fine lanes_in pairs_in
returns-else-lanes_turn c = search rules
