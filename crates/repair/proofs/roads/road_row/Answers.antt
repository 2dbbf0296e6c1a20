use Rattle.std.proofs.Common.{◌∙◌, ap, refl}
use Rattle.model.specs.Tables.{target_words}
use Rattle.repair.proofs.RoadWords.{row_words_lem}
use Rattle.repair.proofs.roads.road_row.Goals as goal

pub returns : goal.returns
returns c =
    row_words_lem _ _ c.requires _ _ _ refl c.put.ensures c.put-2.ensures c.put-3.ensures c.put-4.ensures
    (c.words-predecessor.ensures ∙ ap target_words c.target.ensures)
    (c.words-successor.ensures ∙ ap target_words c.target-2.ensures)
