-- The ends are cut down to the text's length; `name_any` says that this is `bytes_of`, whatever the name's words are.
use Rattle.words.proofs.KeyLaws.{name_any}
use Rattle.words.proofs.name.Name.bytes.Goals as goal

pub returns : goal.returns
returns c = rw (c.min-from.ensures, c.min-to.ensures) (name_any _ c.args.self.start c.args.self.size)
