pub mod Outcome
pub mod Written
pub mod Answers
