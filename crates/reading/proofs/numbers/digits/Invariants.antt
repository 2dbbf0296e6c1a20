-- `digits`: before each byte, those before it are digits, and they mean `number`.
use Rattle.std.proofs.Common.{◌≡◌, drop}
use Rattle.model.specs.Reading.{digits, digits_from}
use Rattle.reading.proofs.numbers.digits.Given as goal

abbrev pub invariant-loop-b : goal.invariant-loop-b
invariant-loop-b l = digits l.bytes ≡ digits_from l.number (drop l.b-index l.bytes)
