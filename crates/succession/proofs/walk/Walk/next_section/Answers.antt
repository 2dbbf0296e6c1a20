use Rattle.std.proofs.Common.{ℕ, List, Bool, ap, ap₂, ◌∙◌, sym}
use Rattle.model.specs.Succession.{next_section}
use Rattle.succession.specs.ByRow.{section_of}
use Rattle.succession.proofs.Steps.{last_at, next_at}
use Rattle.succession.proofs.walk.Walk.next_section.Goals as goal

pub returns-then-forward : goal.returns-then-forward
returns-then-forward c =
    ap section_of (c.copied.ensures ∙ c.first.ensures.value)
    ∙ next_at c.numbers-part.result.now c.args.s _ c.below.ensures
    ∙ ap₂ (λ (l : List ℕ) (e : Bool). next_section l c.args.s e) c.numbers-part.ensures (sym c.if-forward.true)

pub returns-else-forward : goal.returns-else-forward
returns-else-forward c =
    ap section_of (c.copied-else-forward.ensures ∙ c.last.ensures.value)
    ∙ last_at c.numbers-part.result.now c.args.s _ c.below-else-forward.ensures
    ∙ ap₂ (λ (l : List ℕ) (e : Bool). next_section l c.args.s e) c.numbers-part.ensures (sym c.if-forward.false)
