pub mod QuietTime
pub mod Exact
