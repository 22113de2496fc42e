pub mod Notices
pub mod Exact
