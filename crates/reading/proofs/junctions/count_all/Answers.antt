use Rattle.reading.specs.Read.{tables_read}
use Rattle.reading.proofs.CallLaws.{lengths_are}
use Rattle.reading.proofs.junctions.count_all.Goals as goal

pub returns-clause-lengths : goal.returns-clause-lengths
returns-clause-lengths c = lengths_are (tables_read c.args.tables.now.raw) c.read_all.ensures.read
