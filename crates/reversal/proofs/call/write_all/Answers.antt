-- What the six writers write is the content.
use Rattle.model.specs.Calls.{put_reversed}
use Rattle.reversal.specs.Turned.{reversed_tables}
use Rattle.reversal.proofs.call.write_all.Goals as goal

pub returns-clause-content : goal.returns-clause-content
unfolding put_reversed reversed_tables
returns-clause-content c =
    λ i.
    record {
      roads = c.put_roads.ensures i;
      sections = c.put_sections.ensures i;
      connections = c.put_connections.ensures i;
      pairs = c.put_pairs.ensures i;
      lanes = c.put_lanes.ensures i;
      edges = c.put_edges.ensures i;
    }
