pub mod Turned
pub mod Answers
