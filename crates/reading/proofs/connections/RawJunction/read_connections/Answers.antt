use Rattle.std.proofs.Common.{add_assoc, add-zero, sym}
use Rattle.model.specs.Reading.{connection_warnings, kept_connections}
use Rattle.reading.specs.Outs.{connections_laid}
use Rattle.reading.specs.Read.{tables_read}
use Rattle.reading.proofs.RoomLaws.{low_at}
use Rattle.reading.proofs.RunLaws.{connections_none, connections_turn}
use Rattle.reading.proofs.connections.RawJunction.read_connections.Goals as goal

pub loop-k-init : goal.loop-k-init
loop-k-init c = record {
  read = connections_none (connections_laid c.args.connections.now c.args.pairs.now c.args.warnings.now);
  low = low_at (sym (add-zero c.args.first)) c.requires.1;
}

pub loop-k-preserved : goal.loop-k-preserved
loop-k-preserved c =
    let t = tables_read c.args.self.now.tables.raw in
    let j = c.args.self.now.row in
    let inv = c.loop-k.invariant in
    let one = c.read_connection.ensures in record {
      read = connections_turn (kept_connections t j) (connection_warnings t j) c.args.first c.loop-k.k inv.read
          one.read;
      low = low_at (add_assoc c.args.first c.loop-k.k 1) one.low;
    }
