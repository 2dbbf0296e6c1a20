use Rattle.std.proofs.Common.{ℕ, Bool, List, ◌+◌, ◌*◌, ◌/◌, ◌&&◌, ◌∙◌, ap₂, leb, length, rules, tests}
use Rattle.std.specs.Prelude.{ltb}
use Rattle.model.specs.Text.{same_in}
use Rattle.words.specs.Keys.{bears}
use Rattle.words.specs.Name.{place_of}
use Rattle.words.specs.Rows.{any, name_from}
use Rattle.words.proofs.KeyLaws.{found}
use Rattle.repair.proofs.OtherWay.{by_names}
use Rattle.repair.proofs.reversed.runs_back.Goals as goal

pub returns : goal.returns
returns c =
    let reads = c.args.reads.now in
    let text = reads.map.text.now in
    let connections = reads.map.connections.now in
    let test : ℕ → Bool = λ q.
    (leb c.args.first q && ltb q c.args.last) && same_in text (name_from connections (q * 7 + 2))
    (place_of c.at-incoming.result) in
    c.is_some.ensures
    ∙ found (length reads.connections.rows.now / 7) c.find_if-found.result _
    (c.find_if-found.ensures test (λ q t below k. search (rules, tests)))
    ∙ ap₂ (λ (text rows : List ℕ).
    any (length rows / 7) (λ q. test q && bears text 7 0 rows (place_of c.at-connecting.result) q))
    reads.connections_of.0 reads.connections_of.1
    ∙ by_names text connections c.args.first c.args.last c.args.c c.at-incoming.ensures c.at-connecting.ensures
