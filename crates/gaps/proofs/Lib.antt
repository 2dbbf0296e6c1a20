pub mod Puts
pub mod Climbs
pub mod RowLaws
pub mod LinkLaws
pub mod CallLaws
pub mod Bridge
