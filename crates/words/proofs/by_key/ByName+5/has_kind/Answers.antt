use Rattle.std.proofs.Common.{◌+◌, ◌*◌, ◌/◌, ◌∙◌, get_or, length, rules, tests}
use Rattle.model.specs.Tables.{kind_of}
use Rattle.words.specs.Fields.{junction_kind}
use Rattle.words.specs.Keys.{bears, is_kind, is_kind_of}
use Rattle.words.proofs.KeyLaws.{found}
use Rattle.words.proofs.by_key.ByName+5.has_kind.Goals as goal

pub returns : goal.returns
unfolding is_kind_of bears
returns c =
    let rows = c.args.self.now.rows.now in
    c.is_some.ensures ∙ found (length rows / 5) c.find_if.result _
    (c.find_if.ensures (λ r. is_kind (junction_kind c.args.kind) (kind_of (get_or rows (r * 5 + 2) 0)))
    (λ r t below k. search (rules, tests)))
