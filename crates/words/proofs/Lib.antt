pub mod Laws
pub mod Chains
pub mod Scans
pub mod KeyLaws
pub mod Loops
pub mod Joins
