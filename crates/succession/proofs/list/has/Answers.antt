use mathlib.Core.Path.{◌∙◌}
use Rattle.std.proofs.lemmas.List.Sorted.{searched}
use Rattle.succession.proofs.RunLaws.{searched_member}
use Rattle.succession.proofs.list.has.Goals as goal

pub returns : goal.returns
returns c = c.is_ok.ensures.value
    ∙ searched_member _ _ _ (searched _ _ _ c.binary_search.ensures.position c.requires)
