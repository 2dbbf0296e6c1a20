use Rattle.std.proofs.Common.{◌∙◌, List, ℕ, ap, get_or}
use Rattle.words.proofs.Scans.{chunk_at}
use Rattle.words.proofs.rows.row.Goals as goal

pub returns : goal.returns
returns g c =
    let k = c.args.k in
    let row = c.index-rows-k.result in
    c.index-rows-k.is
    ∙ ap (λ (rows : List (List ℕ)). get_or rows k row) c.as_chunks.ensures.front
    ∙ chunk_at g.row.W _ c.args.table.now k row c.requires.1
