-- What OpenDRIVE's words mean: when one lane follows another; which links of roads a junction's connections imply; and
-- when both sides of a joint confirm it.
pub mod Meaning
pub mod Implied
pub mod Confirmed
