use Rattle.std.proofs.Common.{true, ◌∙◌}
use Rattle.std.proofs.lemmas.Option.{unwrap_or-slice_get}
use Rattle.succession.proofs.Steps.{ends_last, ends_none}
use Rattle.succession.proofs.walk.Walk.last_section.Goals as goal

pub returns-in_default : goal.returns-in_default
returns-in_default c = rw c.in_default.is (ends_none true)

pub returns : goal.returns
returns c =
    let read = unwrap_or-slice_get c.numbers.result.now _ 0 ∙ ends_last c.numbers.result.now in
    rw c.in-Some.is (cc (read, c.last.ensures.value))
