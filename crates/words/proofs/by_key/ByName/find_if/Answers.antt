use Rattle.std.proofs.Common.{sym, ◌∙◌, ◌&&◌}
use Rattle.words.specs.Keys.{bears, name_hash}
use Rattle.words.specs.Name.{place_of}
use Rattle.words.proofs.KeyLaws.{only_name}
use Rattle.words.proofs.Scans.{right_on}
use Rattle.words.proofs.by_key.ByName.find_if.Goals as goal

pub returns : goal.returns
returns g c = λ p decides.
    let text = c.args.self.now.text.now in
    let rows = c.args.self.now.rows.now in
    let named = bears text g.row.W 0 rows (place_of c.args.name) in
    c.find.ensures (name_hash text g.row.W 0 rows) (λ r. p r && named r) c.args.self.now.chained
    (λ r has. only_name text g.row.W 0 rows _ r (right_on (p r) (named r) has) ∙ sym c.bucket.ensures.0)
    (λ r t less answer. rw (decides r answer.0 less answer.1) at answer.2)
