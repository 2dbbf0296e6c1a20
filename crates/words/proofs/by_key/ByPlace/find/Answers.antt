use Rattle.std.proofs.Common.{rules, sym, ◌∙◌}
use Rattle.words.specs.Keys.{is_key, lane_hash}
use Rattle.words.proofs.KeyLaws.{only_key}
use Rattle.words.proofs.by_key.ByPlace.find.Goals as goal

pub returns : goal.returns
unfolding is_key
returns c =
    let lanes = c.args.self.now.lanes.now in
    let owner = c.args.self.now.owner.now in
    let bucket-is = c.place_bucket-bucket.ensures.0 in
    c.find.ensures (lane_hash lanes owner) (is_key lanes owner c.args.road c.args.section c.args.number)
    c.args.self.now.chained (λ r has. only_key lanes owner _ _ _ r has ∙ sym bucket-is)
    (λ r t less answer. search rules)
