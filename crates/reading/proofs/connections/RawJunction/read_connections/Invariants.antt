-- `read_connections`: before turn `k` the first `k` connections of the part are read.
use Rattle.std.proofs.Common.{◌+◌}
use Rattle.model.specs.Lists.{gather}
use Rattle.model.specs.Reading.{connection_warnings, kept_connections, part_rows}
use Rattle.reading.specs.Laid.{ConnectionsRead}
use Rattle.reading.specs.Outs.{LowLaid, connections_laid}
use Rattle.reading.specs.Read.{tables_read}
use Rattle.reading.proofs.connections.RawJunction.read_connections.Given as goal

abbrev pub invariant-loop-k : goal.invariant-loop-k
invariant-loop-k l = record {
  read : ConnectionsRead (gather (kept_connections (tables_read l.self.tables.raw) l.self.row) (part_rows l.first l.k))
      (gather (connection_warnings (tables_read l.self.tables.raw) l.self.row) (part_rows l.first l.k))
      (connections_laid l.initial.connections l.initial.pairs l.initial.warnings)
      (connections_laid l.connections l.pairs l.warnings);
  low : LowLaid l.self.tables.raw.connections.now (l.first + l.k) l.connections l.pairs l.warnings;
}
