pub mod TwoRuns
pub mod Holds
pub mod Woken
