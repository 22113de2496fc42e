pub mod Counts
pub mod Hearing
pub mod Polls
pub mod Line
