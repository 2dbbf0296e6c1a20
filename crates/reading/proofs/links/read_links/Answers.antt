use Rattle.std.proofs.Common.{arith}
use Rattle.reading.specs.Laid.{drops_at, pairs_at}
use Rattle.reading.specs.Outs.{links_laid}
use Rattle.reading.proofs.RunLaws.{links_none, links_turn}
use Rattle.reading.proofs.links.read_links.Goals as goal

pub loop-k-init : goal.loop-k-init
loop-k-init c = record {
  read = links_none (links_laid c.args.pairs.now c.args.warnings.now);
  pairs = omega arith;
  warnings = omega arith;
}

pub loop-k-preserved : goal.loop-k-preserved
loop-k-preserved c =
    let raw = c.args.tables.now.raw in
    let inv = c.loop-k.invariant in
    let link = c.read_link.ensures in record {
      read = links_turn (pairs_at raw.text.now raw.lane_links.now)
          (drops_at raw.text.now raw.lane_links.now c.args.j c.args.c) c.args.first c.loop-k.k inv.read link.read;
      pairs = omega (arith, link.few.0, inv.pairs);
      warnings = omega (arith, link.few.1, inv.warnings);
    }
