pub mod Ready
pub mod Now
pub mod Laying
pub mod Along
pub mod Answers
