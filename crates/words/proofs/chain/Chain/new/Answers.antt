use Rattle.words.proofs.Chains.{fresh}
use Rattle.words.proofs.chain.Chain.new.Goals as goal

pub returns : goal.returns
returns c = fresh
