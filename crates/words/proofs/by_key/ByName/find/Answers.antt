use Rattle.std.proofs.Common.{rules, true}
use Rattle.words.proofs.by_key.ByName.find.Goals as goal

pub returns : goal.returns
returns g c = c.find_if.ensures (λ r. true) (λ r t less answer. search rules)
