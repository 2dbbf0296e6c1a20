pub mod Refusals
pub mod Found
pub mod Left
