pub mod Links
pub mod Lent
pub mod Answers
