pub mod Read
pub mod QuietTime
pub mod Exact
