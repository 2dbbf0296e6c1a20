pub mod ByRow
pub mod Parts
