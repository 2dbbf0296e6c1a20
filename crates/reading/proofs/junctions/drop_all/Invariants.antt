-- `drop_all`: before turn `k` the warnings of the first `k` connections are put.
use Rattle.model.specs.Lists.{gather}
use Rattle.model.specs.Reading.{part_rows}
use Rattle.reading.specs.Laid.{Run}
use Rattle.reading.specs.Outs.{laid}
use Rattle.reading.proofs.JunctionLaws.{dropped}
use Rattle.reading.proofs.junctions.drop_all.Given as goal

abbrev pub invariant-loop-k : goal.invariant-loop-k
invariant-loop-k l = Run 4 (gather (dropped l.j) (part_rows l.first l.k)) l.k (laid l.initial.out) (laid l.out)
