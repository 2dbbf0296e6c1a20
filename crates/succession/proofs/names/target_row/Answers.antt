use Rattle.std.proofs.Common.{arith, rules}
use Rattle.words.proofs.Chains.{found_le}
use Rattle.rules.specs.ByRow.{road_row_of}
use Rattle.succession.specs.Named.{junction_row_of, target_row_of}
use Rattle.succession.proofs.names.target_row.Goals as goal

pub returns-then-target : goal.returns-then-target
unfolding target_row_of junction_row_of
returns-then-target c = (search rules, omega (arith, found_le _ _ c.find.ensures, c.args.junctions.now.few))

pub returns-else-target : goal.returns-else-target
unfolding target_row_of road_row_of
returns-else-target c = (search rules, omega (arith, found_le _ _ c.find-else-target.ensures, c.args.roads.now.few))
