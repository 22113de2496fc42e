pub mod Reply
pub mod Exact
