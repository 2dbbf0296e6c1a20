-- From lists to the meaning (Inside to Times), both sides of a joint (Confirms), the gap check (Joints), repair
-- (Pairings to Repairs); Examples are small maps, worked out, and Means, the last file, states the theorems.
pub mod Inside
pub mod Places
pub mod Leads
pub mod Followed
pub mod Differs
pub mod Times
pub mod Confirms
pub mod Joints
pub mod Passed
pub mod Pairings
pub mod Lacking
pub mod Turns
pub mod Repairs
pub mod Examples
pub mod Means
