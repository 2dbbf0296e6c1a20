use Rattle.std.proofs.Common.{rules, get_or, ◌+◌, ◌*◌}
use Rattle.words.specs.Keys.{is_key, key_before, lane_hash}
use Rattle.words.proofs.KeyLaws.{only_key}
use Rattle.words.proofs.by_key.link_places.Goals as goal

pub returns : goal.returns
unfolding is_key lane_hash key_before
returns c =
    let lanes = c.args.lanes.now in
    let owner = c.args.owner.now in
    let made = c.link_rows.ensures (lane_hash lanes owner)
    (λ r. is_key lanes owner (get_or owner r 0) (get_or lanes (r * 10 + 3) 0) (get_or lanes (r * 10 + 4) 0))
    (λ r b less answer. search rules) (λ q r t before less answer. search rules)
    (λ r less q has. only_key lanes owner _ _ _ q has) in
    record { value = made.0; chained = made.1 }
