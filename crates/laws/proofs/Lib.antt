-- Laws over the model's definitions. Theorems, the last file, states the main ones; the others lead up to it.
-- The notions, and small laws of lists and tests.
pub mod Valid
pub mod Basics
pub mod ForEach
pub mod ListTests
pub mod Sorting
-- Reversal of a map.
pub mod Mirror
pub mod Names
pub mod Reverse
pub mod Compose
-- Repair, and repair of a reversed map.
pub mod RepairEach
pub mod RepairReversed
pub mod JunctionsReversed
pub mod WarningsReversed
pub mod RepairKeeps
-- Succession and the gap check on a reversed map; the lists.
pub mod SuccessionReversed
pub mod SameLists
pub mod SameGaps
pub mod Contacts
pub mod Converse
pub mod ByBytes
-- The rules, and words and records.
pub mod RulesReversed
pub mod Held
pub mod Lay
pub mod Encoded
pub mod Decoded
pub mod SoundMaps
pub mod Admitted
pub mod StaySound
pub mod MarkRules
pub mod Sets
-- The calls, and sequences of reversals.
pub mod WordsReversed
pub mod Sequences
pub mod SameFound
pub mod SameWarnings
pub mod Packed
pub mod EverySequence
pub mod OverTables
-- What the calls write are words within the limits.
pub mod Numbers
pub mod AllWords
pub mod WordsKept
pub mod Written
pub mod Grown
pub mod Bound
pub mod Eleven
pub mod Tight
pub mod Offsets
-- Rows, list lookup, the tables that a call reads, and warnings joined.
pub mod RowTests
pub mod Looked
pub mod TablesRead
pub mod Joined
-- Maps renamed and reordered.
pub mod AnyOrder
pub mod RepairRenamed
pub mod SuccessionRenamed
pub mod WarningsRenamed
pub mod GapsRenamed
pub mod RenamedTables
-- The bench cards, and the main theorems.
pub mod Cards
pub mod Theorems
