-- `read_connection` passes connection `c` over, drops it with warning 1, or keeps it, with warning 4 where its
-- contactPoint is loose, and with its pairs.
use Rattle.std.proofs.Common.{◌≡◌, ◌-◌, ◌∷◌, [], ap, ◌∙◌, arith, refl, rules, sym}
use Rattle.model.specs.Reading.{contact_of}
use Rattle.model.specs.Tables.{bit}
use Rattle.reading.specs.Outs.{connections_laid}
use Rattle.reading.specs.Read.{tables_read}
use Rattle.reading.proofs.ConnectionLaws.{read_dropped, read_kept, read_passed}
use Rattle.reading.proofs.NameLaws.{word_at}
use Rattle.reading.proofs.RoomLaws.{low_more, room}
use Rattle.reading.proofs.RunLaws.{run_as}
use Rattle.reading.proofs.connections.RawJunction.read_connection.Goals as goal

pub returns-then-passes_over-clause-read : goal.returns-then-passes_over-clause-read
returns-then-passes_over-clause-read c =
    read_passed (tables_read c.args.self.now.tables.raw) c.args.self.now.row c.args.c
    (connections_laid c.args.connections.now c.args.pairs.now c.args.warnings.now)
    (sym c.passes_over.ensures ∙ c.if-passes_over.true)

pub returns-then-passes_over-clause-low : goal.returns-then-passes_over-clause-low
returns-then-passes_over-clause-low c =
    let args = c.args in
    low_more args.connections.now.rows args.pairs.now.rows args.warnings.now.rows c.requires.1
    (omega arith) (omega arith) (omega arith)

-- ---- a road is missing: warning 1
pub put-requires : goal.put-requires
put-requires c =
    let few = room c.args.self.now.tables.ready c.requires.0 c.requires.1 in
    (search rules, (search rules, (omega (arith, few.warnings), search rules)))

pub returns-in_default-clause-read : goal.returns-in_default-clause-read
returns-in_default-clause-read c =
    read_dropped (tables_read c.args.self.now.tables.raw) c.args.self.now.row c.args.c
    (sym c.passes_over.ensures ∙ c.if-passes_over.false) c.connection-row.ensures c.args.self.now.kind_is
    c.in_default.ensures (run_as c.put.ensures.put c.row.ensures refl)

pub returns-in_default-clause-low : goal.returns-in_default-clause-low
returns-in_default-clause-low c =
    let args = c.args in
    low_more args.connections.now.rows args.pairs.now.rows c.put.new.self.rows c.requires.1 (omega arith) (omega arith)
    (omega (arith, c.put.ensures.put.count))

-- ---- both are there: its contactPoint, its lane links, then its row
pub warn_loose-requires : goal.warn_loose-requires
warn_loose-requires c =
    let few = room c.args.self.now.tables.ready c.requires.0 c.requires.1 in omega (arith, few.warnings)

pub read_links-requires : goal.read_links-requires
read_links-requires c =
    let few = room c.args.self.now.tables.ready c.requires.0 c.requires.1 in
    let connections = c.args.self.now.tables.raw.connections.now in
    let first = word_at 14 c.args.c connections 12 (omega arith) c.connection-row.ensures c.word-first.ensures.0 in
    let count = word_at 14 c.args.c connections 13 (omega arith) c.connection-row.ensures c.word-count.ensures.0 in
    let warned = c.warn_loose.ensures.few in (
      omega (arith, few.part),
      omega (arith, few.pairs),
      omega (arith, few.warnings, warned),
    )

pub overflow_cast-start : goal.overflow_cast-start
overflow_cast-start c =
    let few = room c.args.self.now.tables.ready c.requires.0 c.requires.1 in omega (arith, few.pairs)

pub returns-clause-read : goal.returns-clause-read
returns-clause-read c =
    let t = tables_read c.args.self.now.tables.raw in
    let point = c.contact_of-point.ensures ∙ ap (contact_of t.text) c.attribute.ensures in
    let word : c.from.result ≡ bit c.is_end.result = search rules in
    let contact = word ∙ ap bit (c.is_end.ensures ∙ ap (λ p. p.contact) point) in
    let links = c.read_links.ensures.read in
    let start = c.args.pairs.now.rows in
    let size = c.read_links.new.pairs.rows - start in
    let a = c.in-Some.incoming in
    let b = c.in-Some.connecting in
    read_kept t c.args.self.now.row c.args.c (sym c.passes_over.ensures ∙ c.if-passes_over.false)
    c.connection-row.ensures c.args.self.now.kind_is size c.word-first.ensures.0 c.word-count.ensures.0
    c.in-Some.ensures (rw (ap (λ p. p.loose) point) at c.warn_loose.ensures.warned) links
    (omega (arith, links.pairs.count))
    (run_as c.put-2.ensures.put
    (λ z. a.start ∷ a.size ∷ b.start ∷ b.size ∷ contact z ∷ start ∷ size ∷ []) refl)

pub returns-clause-low : goal.returns-clause-low
returns-clause-low c =
    let connections = c.args.self.now.tables.raw.connections.now in
    let count = word_at 14 c.args.c connections 13 (omega arith) c.connection-row.ensures c.word-count.ensures.0 in
    let warned = c.warn_loose.ensures.few in
    let few = c.read_links.ensures.few in
    low_more c.put-2.new.self.rows c.read_links.new.pairs.rows c.read_links.new.warnings.rows c.requires.1
    (omega (arith, c.put-2.ensures.put.count)) (omega (arith, few.0))
    (omega (arith, few.1, warned))
