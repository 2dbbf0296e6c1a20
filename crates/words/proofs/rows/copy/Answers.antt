use mathlib.Core.Path.{◌∙◌}
use Rattle.words.proofs.Laws.{put_all}
use Rattle.words.proofs.rows.copy.Goals as goal

pub returns : goal.returns
returns c = c.put.ensures ∙ put_all _ _
