use Rattle.std.proofs.Common.{◌+◌, ◌*◌, ◌≡◌, ◌≤◌, ◌∙◌, ap, arith, length, rules}
use native.Mathlib.Nat.{add-mul}
use Rattle.repair.proofs.Piles.{put_on}
use Rattle.repair.proofs.laid.LaidRows.put.Goals as goal

pub returns-clause-words : goal.returns-clause-words
returns-clause-words g c =
    let x = c.args.self.now in
    let width : length c.args.row.now ≡ g.row.W = search rules in
    let one : 1 * g.row.W ≡ length c.args.row.now = omega (arith, width) in
    let fits : x.rows * g.row.W ≤ length x.words = search rules in
    put_on c.args.row.now x.words c.put.ensures fits
    (add-mul x.rows 1 g.row.W ∙ ap (λ n. x.rows * g.row.W + n) one)
