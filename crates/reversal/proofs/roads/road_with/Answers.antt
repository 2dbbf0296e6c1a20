use mathlib.Core.Path.{ap, ◌∙◌}
use Rattle.words.specs.Rows.{spliced}
use Rattle.reversal.proofs.Leaves.{row_with}
use Rattle.reversal.proofs.roads.road_with.Goals as goal

pub returns : goal.returns
returns c =
    row_with _ _ _ (search) (c.put.ensures ∙ ap (λ row. spliced 4 row c.args.row.now) c.words.ensures)
    (c.put-2.ensures ∙ ap (λ row. spliced 11 row c.put.new.out) c.words-2.ensures)
