-- A name of the code as the model's. Definitions only.
use Rattle.model.specs.Records.{Span}
use Rattle.words.specs.declared.name.Name.{Name}

-- where the name stands in the text
abbrev pub place_of : Name → Span
place_of n = record { start = n.start; size = n.size }
