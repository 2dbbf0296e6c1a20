-- The answer of a call's checks, and document 01's number of each refusal. Definitions only.
use Rattle.std.specs.Prelude.{ℕ, Result, Ok, Err}
use Rattle.std.proofs.Math.Option.{Option, none, some}
use Rattle.tables.specs.declared.refusal.Refusal.{Refusal}
use Rattle.tables.specs.declared.refusal.Refusal.TheVariants.{BadSize, BadWord, RoadTwice, BadSections, BadParts}
use Rattle.tables.specs.declared.refusal.Refusal.TheVariants.{IdentityTwice, LaneUnlisted, PlaceTwice, OutputShort}
use Rattle.tables.specs.declared.refusal.Refusal.TheVariants.{BadEdges, BadLists, BadMarks, LeastNumber, TwoEnded}

-- document 01's number
abbrev pub number_of : Refusal → ℕ
number_of BadSize = 1
number_of BadWord = 2
number_of RoadTwice = 3
number_of BadSections = 4
number_of BadParts = 5
number_of IdentityTwice = 6
number_of LaneUnlisted = 7
number_of PlaceTwice = 8
number_of OutputShort = 9
number_of BadEdges = 10
number_of BadLists = 11
number_of BadMarks = 12
number_of LeastNumber = 13
number_of TwoEnded = 14

-- no refusal, or its number
abbrev pub refusal_of : {A : Type 0} → Result A Refusal → Option ℕ
refusal_of (Ok a) = none
refusal_of (Err r) = some (number_of r)
