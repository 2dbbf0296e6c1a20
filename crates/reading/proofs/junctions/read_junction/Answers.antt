-- `read_junction` drops the connections of a junction without a name, with warning 1 each, or reads them and puts the
-- junction.
use Rattle.std.proofs.Common.{◌≡◌, ◌-◌, ◌∷◌, [], ap, arith, refl, ◌∙◌}
use Rattle.model.specs.Reading.{kind_read}
use Rattle.model.specs.Tables.{kind_word, name_in}
use Rattle.words.specs.Fields.{junction_kind}
use Rattle.reading.specs.Read.{tables_read}
use Rattle.reading.proofs.JunctionLaws.{read_named, read_unnamed}
use Rattle.reading.proofs.RoomLaws.{ground, low_at, low_dropped}
use Rattle.reading.proofs.RunLaws.{run_as}
use Rattle.reading.proofs.junctions.read_junction.Goals as goal

pub drop_all-requires : goal.drop_all-requires
drop_all-requires c =
    let on = ground c.args.tables.now.ready c.requires.0 c.requires.1.low c.junction-row.ensures c.word-first.ensures.0
    c.word-count.ensures.0 in
    (on.few, on.warnings)

-- ---- it has no name
pub returns-in_default-clause-read : goal.returns-in_default-clause-read
returns-in_default-clause-read c =
    read_unnamed (tables_read c.args.tables.now.raw) c.args.j c.junction-row.ensures c.word-first.ensures.0
    c.word-count.ensures.0 c.in_default.ensures c.drop_all.ensures.put

pub returns-in_default-clause-low : goal.returns-in_default-clause-low
returns-in_default-clause-low c =
    let on = ground c.args.tables.now.ready c.requires.0 c.requires.1.low c.junction-row.ensures c.word-first.ensures.0
    c.word-count.ensures.0 in
    record {
      junctions_low = omega (arith, c.requires.1.junctions_low);
      low = rw c.drop_all.ensures.put.count (low_at on.next (low_dropped c.word-count.result on.start));
    }

-- ---- it has one
pub invariant_of-junction : goal.invariant_of-junction
invariant_of-junction c =
    let text = c.args.tables.now.raw.text.now in record {
      there = c.requires.0;
      kind_is = c.kind_read-kind.ensures
          ∙ ap (kind_read text) c.attribute-2.ensures
          ∙ ap (λ row. kind_read text (name_in row 2)) c.junction-row.ensures;
    }

pub read_connections-requires : goal.read_connections-requires
read_connections-requires c =
    let on = ground c.args.tables.now.ready c.requires.0 c.requires.1.low c.junction-row.ensures c.word-first.ensures.0
    c.word-count.ensures.0 in
    (on.part, on.start)

pub overflow_cast-start : goal.overflow_cast-start
overflow_cast-start c =
    let on = ground c.args.tables.now.ready c.requires.0 c.requires.1.low c.junction-row.ensures c.word-first.ensures.0
    c.word-count.ensures.0 in
    omega (arith, on.kept, on.few)

pub overflow_cast-size : goal.overflow_cast-size
overflow_cast-size c =
    let on = ground c.args.tables.now.ready c.requires.0 c.requires.1.low c.junction-row.ensures c.word-first.ensures.0
    c.word-count.ensures.0 in
    omega (arith, c.read_connections.ensures.low.connections_low, on.few)

pub returns-clause-read : goal.returns-clause-read
returns-clause-read c =
    let raw = c.args.tables.now.raw in
    let kind = c.kind_read-kind.ensures
    ∙ ap (kind_read raw.text.now) c.attribute-2.ensures
    ∙ ap (λ row. kind_read raw.text.now (name_in row 2)) c.junction-row.ensures in
    let word : c.from.result ≡ kind_word (junction_kind c.kind_read-kind.result) = c.from.ensures in
    let n = c.in-Some.name in
    let start = c.args.connections.now.rows in
    let size = c.read_connections.new.connections.rows - start in
    let read = c.read_connections.ensures.read in
    read_named (tables_read raw) c.args.j c.junction-row.ensures c.word-first.ensures.0 c.word-count.ensures.0 size
    c.in-Some.ensures kind read (omega (arith, read.rows.count))
    (run_as c.put.ensures.put (λ z. n.start ∷ n.size ∷ word z ∷ start ∷ size ∷ []) refl)

pub returns-clause-low : goal.returns-clause-low
returns-clause-low c =
    let on = ground c.args.tables.now.ready c.requires.0 c.requires.1.low c.junction-row.ensures c.word-first.ensures.0
    c.word-count.ensures.0 in
    record {
      junctions_low = omega (arith, c.requires.1.junctions_low, c.put.ensures.put.count);
      low = low_at on.next c.read_connections.ensures.low;
    }
