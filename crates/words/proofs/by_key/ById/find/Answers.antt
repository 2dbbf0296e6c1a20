use Rattle.std.proofs.Common.{rules}
use Rattle.words.specs.Keys.{is_id, id_hash}
use Rattle.words.proofs.KeyLaws.{only_id}
use Rattle.words.proofs.by_key.ById.find.Goals as goal

pub returns : goal.returns
unfolding is_id
returns c =
    let lanes = c.args.self.now.lanes.now in
    c.find.ensures (id_hash lanes) (is_id lanes c.args.id) c.args.self.now.chained (only_id lanes c.args.id)
    (λ r t less answer. search rules)
