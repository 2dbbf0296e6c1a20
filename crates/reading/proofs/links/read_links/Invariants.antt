-- `read_links`: before turn `k` the first `k` lane links of the part are read.
use Rattle.std.proofs.Common.{◌+◌, ◌≤◌}
use Rattle.model.specs.Lists.{gather}
use Rattle.model.specs.Reading.{part_rows}
use Rattle.reading.specs.Laid.{LinksRead, drops_at, pairs_at}
use Rattle.reading.specs.Outs.{links_laid}
use Rattle.reading.proofs.links.read_links.Given as goal

abbrev pub invariant-loop-k : goal.invariant-loop-k
invariant-loop-k l = record {
  read : LinksRead (gather (pairs_at l.tables.raw.text.now l.tables.raw.lane_links.now) (part_rows l.first l.k))
      (gather (drops_at l.tables.raw.text.now l.tables.raw.lane_links.now l.j l.c) (part_rows l.first l.k))
      (links_laid l.initial.pairs l.initial.warnings) (links_laid l.pairs l.warnings);
  pairs : l.pairs.rows ≤ l.initial.pairs.rows + l.k;
  warnings : l.warnings.rows ≤ l.initial.warnings.rows + l.k;
}
