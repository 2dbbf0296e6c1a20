use Rattle.repair.specs.Along.{road_now_words}
use Rattle.words.specs.Rows.{tab}
use Rattle.model.specs.Rows.{written}
use Rattle.model.specs.Lists.{gather}
use mathlib.Core.Path.{◌≡◌}
use Rattle.repair.proofs.roads.put_roads.Given as goal

-- before each turn the roads so far are written
abbrev pub invariant-loop-road : goal.invariant-loop-road
invariant-loop-road l =
    l.out
    ≡ written (gather (road_now_words l.reads.map.roads.now l.reads.map.junctions.now l.ends.words)
    (tab l.road (λ r. r))) l.initial.out
