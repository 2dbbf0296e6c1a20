-- The row that the name finds, and its mark.
use Prim.Native.Nat.{◌/◌}
use mathlib.Core.Path.{ap, ◌∙◌}
use native.Mathlib.Omega.{arith}
use lib.ListN.{length}
use Rattle.words.specs.Keys.{bears}
use Rattle.words.specs.Name.{place_of}
use Rattle.words.proofs.Chains.{last_le}
use Rattle.rules.specs.ByRow.{road_row_of}
use Rattle.reversal.specs.Turned.{mark_at, mark_of}
use Rattle.reversal.proofs.marks.Turning.marked.Goals as goal

pub mark_at-requires : goal.mark_at-requires
mark_at-requires c =
    let t = c.args.self.now in
    let low = last_le (length t.roads.rows.now / 20)
    (bears t.roads.text.now 20 0 t.roads.rows.now (place_of c.args.name)) in
    omega (arith, c.find.ensures, low, t.even)

pub returns : goal.returns
unfolding mark_of road_row_of
returns c = c.mark_at.ensures ∙ ap (mark_at c.args.self.now.marks.now) c.find.ensures
