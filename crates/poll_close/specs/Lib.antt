pub mod Closing
pub mod Logs
