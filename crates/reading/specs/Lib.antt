pub mod Read
pub mod Laid
pub mod Outs
pub mod Answers
pub mod TargetAnswers
pub mod JunctionAnswers
