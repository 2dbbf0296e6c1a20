use Rattle.std.proofs.Common.{arith}
use Rattle.reading.specs.Read.{tables_read}
use Rattle.reading.proofs.CallLaws.{few_connections, few_links}
use Rattle.reading.proofs.junctions.parted.Goals as goal

pub parts_fit-requires : goal.parts_fit-requires
parts_fit-requires c =
    (omega arith, omega arith, omega arith, omega arith, few_connections (tables_read c.args.raw.now) c.requires)

pub parts_fit-requires-then-parts_fit : goal.parts_fit-requires-then-parts_fit
parts_fit-requires-then-parts_fit c =
    (omega arith, omega arith, omega arith, omega arith, few_links (tables_read c.args.raw.now) c.requires)
