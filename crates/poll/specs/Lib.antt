pub mod Poll
pub mod Exact
pub mod Acts
