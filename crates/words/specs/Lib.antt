pub mod Rows
pub mod Chain
pub mod Keys
pub mod Name
pub mod Map
pub mod Fields
