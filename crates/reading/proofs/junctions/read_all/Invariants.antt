-- `read_all`: before turn `j` the first `j` junctions are read.
use Rattle.model.specs.Lists.{gather}
use Rattle.model.specs.Reading.{junction_warnings, part_rows, read_junction, to_list}
use Rattle.reading.specs.Laid.{JunctionsRead}
use Rattle.reading.specs.Outs.{BeforeLaid, junctions_laid}
use Rattle.reading.specs.Read.{tables_read}
use Rattle.reading.proofs.junctions.read_all.Given as goal

abbrev pub invariant-loop-j : goal.invariant-loop-j
invariant-loop-j l = record {
  read : JunctionsRead (gather (λ i. to_list (read_junction (tables_read l.tables.raw) i)) (part_rows 0 l.j))
      (gather (junction_warnings (tables_read l.tables.raw)) (part_rows 0 l.j))
      (junctions_laid l.initial.junctions l.initial.connections l.initial.pairs l.initial.warnings)
      (junctions_laid l.junctions l.connections l.pairs l.warnings);
  before : BeforeLaid l.tables.raw.junctions.now l.tables.raw.connections.now l.j l.junctions l.connections l.pairs
      l.warnings;
}
