pub mod Settings
pub mod Accepted
pub mod Checks
