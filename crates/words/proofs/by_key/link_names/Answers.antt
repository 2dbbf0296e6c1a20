use Rattle.words.specs.Keys.{bears, name_hash, name_before}
use Rattle.words.specs.Rows.{name_at}
use Rattle.words.proofs.KeyLaws.{only_name}
use Rattle.words.proofs.by_key.link_names.Goals as goal

pub returns : goal.returns
unfolding name_hash name_before
returns g c =
    let text = c.args.text.now in
    let rows = c.args.rows.now in
    let made = c.link_rows.ensures (name_hash text g.row.W g.row.K rows)
    (λ r. bears text g.row.W g.row.K rows (name_at g.row.W g.row.K rows r))
    (λ r b less answer. answer.0) (λ q r t before less answer. answer)
    (λ r less q has. only_name text g.row.W g.row.K rows _ q has) in
    record { value = made.0; chained = made.1 }
