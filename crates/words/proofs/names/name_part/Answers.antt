-- A name that ends within the text is its part; any other is none.
use Rattle.std.proofs.Common.{refl, ap, ◌∙◌, Bor, List, ℕ}
use Rattle.words.proofs.KeyLaws.{name_got}
use Rattle.words.proofs.names.name_part.Goals as goal

pub returns : goal.returns
returns c =
    ap (λ (part : Bor (List ℕ)). part.now) c.unwrap_or.ensures
    ∙ name_got (λ (part : Bor (List ℕ)). part.now) _ _ _ c.get.result _ c.get.ensures.lookup.0 refl
