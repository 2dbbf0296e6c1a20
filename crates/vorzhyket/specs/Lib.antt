pub mod Exported
pub mod Places
