-- `take_in` leaves the run where it knows the identity, and else puts it in.
use Rattle.std.proofs.Common.{List, ℕ, length, ◌≤◌, sym, ap, ◌∙◌, Bool, cond, arith}
use Rattle.std.proofs.Math.ListN.{take}
use Rattle.std.proofs.Math.Seq.{length-take-le}
use Rattle.laws.proofs.Bound.{length_insert}
use Rattle.model.specs.Lists.{insert}
use Rattle.model.specs.Rows.{written}
use Rattle.succession.proofs.Absorbed.{written_take}
use Rattle.succession.proofs.entries.Run.take_in.Goals as goal

pub returns-then-not-knows-clause-words : goal.returns-then-not-knows-clause-words
returns-then-not-knows-clause-words c =
    let run = c.args.self.now in
    let had : List ℕ = take run.len run.words.now in
    let grows = ap (λ (b : Bool). cond b had (insert c.args.id.0 had)) (sym c.knows.ensures ∙ c.if-not-knows.true) in (
      c.put_in.ensures ∙ ap (λ (l : List ℕ). written l run.words.now) (sym grows),
      omega (
        arith,
        length_insert c.args.id.0 had,
        ap length grows,
        length-take-le run.len run.words.now (omega arith),
      ),
    )

pub returns-else-not-knows-clause-words : goal.returns-else-not-knows-clause-words
returns-else-not-knows-clause-words c =
    let run = c.args.self.now in
    let had : List ℕ = take run.len run.words.now in
    let within : run.len ≤ length run.words.now = omega arith in
    let stays = ap (λ (b : Bool). cond b had (insert c.args.id.0 had)) (sym c.knows.ensures ∙ c.if-not-knows.false) in (
      sym (written_take run.len run.words.now within) ∙ ap (λ (l : List ℕ). written l run.words.now) (sym stays),
      sym (length-take-le run.len run.words.now within) ∙ ap length (sym stays),
    )
