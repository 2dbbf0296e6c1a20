use Rattle.std.proofs.Common.{◌≡◌, ◌/◌, arith, length, rules}
use Rattle.model.specs.Reading.{junction_warnings, read_junction, read_junctions, read_warnings, to_list}
use Rattle.reading.specs.Read.{tables_read}
use Rattle.reading.proofs.RunLaws.{laid_as, junctions_none, junctions_turn}
use Rattle.reading.proofs.junctions.read_all.Goals as goal

pub loop-j-init : goal.loop-j-init
loop-j-init c = record {
  read = junctions_none _;
  before = record {
    junctions_low = omega (arith, c.over-junctions.ensures.2);
    low = record {
      connections_low = omega (arith, c.over-connections.ensures.2);
      pairs_low = omega (arith, c.over-pairs.ensures.2);
      warnings_low = omega (arith, c.over-warnings.ensures.2);
    };
  };
}

pub loop-j-preserved : goal.loop-j-preserved
loop-j-preserved c =
    let t = tables_read c.args.tables.now.raw in
    let inv = c.loop-j.invariant in
    let one = c.read_junction.ensures in record {
      read = junctions_turn (λ i. to_list (read_junction t i)) (junction_warnings t) c.loop-j.j inv.read one.read;
      before = one.low;
    }

pub returns-clause-read : goal.returns-clause-read
unfolding read_junctions read_warnings
returns-clause-read c =
    let inv = c.loop-j.invariant in
    let past : c.loop-j.j ≡ length c.args.tables.now.raw.junctions.now / 8 = omega (arith) in
    let read = rw past at inv.read in
    let junctions = inv.read.rows.same in
    let connections = inv.read.rest.rows.same in
    let pairs = inv.read.rest.rest.pairs.same in
    let warnings = inv.read.rest.rest.warnings.same in
    laid_as read c.over-junctions.ensures.1 c.over-junctions.ensures.2 c.over-connections.ensures.1
    c.over-connections.ensures.2 c.over-pairs.ensures.1 c.over-pairs.ensures.2 c.over-warnings.ensures.1
    c.over-warnings.ensures.2 (search rules) (search rules) (search rules) (search rules)
