use Rattle.std.proofs.Common.{◌*◌, ◌≤◌, length, refl, rules}
use lib.Seq.{length-take-le}
use Rattle.repair.proofs.laid.LaidRows.slice.Goals as goal

pub returns : goal.returns
returns g c =
    let x = c.args.self.now in
    let fits : x.rows * g.row.W ≤ length x.words = search rules in (refl, length-take-le _ x.words fits)
