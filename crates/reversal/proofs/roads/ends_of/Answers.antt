use mathlib.Core.List.{[], ◌∷◌}
use mathlib.Core.Path.{ap, ◌∙◌}
use lib.ListN.{length}
use Prim.Native.Nat.{◌-◌}
use Rattle.std.specs.Option.{unwrap_or}
use Rattle.std.proofs.lemmas.Option.{unwrap_or-slice_get}
use Rattle.reversal.proofs.Leaves.{first_is, last_is}
use Rattle.reversal.proofs.roads.ends_of.Goals as goal

pub returns : goal.returns
returns c =
    let part = c.args.part.now in
    let first = c.unwrap_or-first.ensures
    ∙ ap (λ o. unwrap_or o 0) (c.copied.ensures ∙ c.first.ensures.value)
    ∙ unwrap_or-slice_get part 0 0
    ∙ first_is part in
    let last = c.unwrap_or-last.ensures
    ∙ ap (λ o. unwrap_or o 0) (c.copied-2.ensures ∙ c.last.ensures.value)
    ∙ unwrap_or-slice_get part (length part - 1) 0
    ∙ last_is part in
    λ i. first i ∷ last i ∷ []
