pub mod Counts
pub mod Silence
pub mod Hearing
pub mod Polls
pub mod Calls
pub mod Line
