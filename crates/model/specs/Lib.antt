-- What a call means, in the order of document 01: the tables and the map that their words mean; repair;
-- succession and list lookup; the gap check; reversal; how each call refuses; each call's whole outcome; attribute
-- reading, its warnings joined with repair's, and the length check; sequences of reversals; the claim about every
-- sequence; and the claim about maps renamed and reordered.
pub mod Lists
pub mod Records
pub mod Text
pub mod Rows
pub mod Tables
pub mod Repair
pub mod Succession
pub mod Lookup
pub mod Gaps
pub mod Reversal
pub mod Rules
pub mod Calls
pub mod Reading
pub mod ReadingCalls
pub mod Joined
pub mod Length
pub mod Sequence
pub mod Claim
pub mod Orders
pub mod Renamed
