use Rattle.std.proofs.Common.{rules, get_or, ◌*◌}
use Rattle.words.specs.Keys.{is_id, id_hash, id_before}
use Rattle.words.proofs.KeyLaws.{only_id}
use Rattle.words.proofs.by_key.link_ids.Goals as goal

pub returns : goal.returns
unfolding is_id id_hash id_before
returns c =
    let lanes = c.args.lanes.now in
    let made = c.link_rows.ensures (id_hash lanes) (λ r. is_id lanes (get_or lanes (r * 10) 0))
    (λ r b less answer. search rules) (λ q r t before less answer. search rules)
    (λ r less q has. only_id lanes _ q has) in
    record { value = made.0; chained = made.1 }
