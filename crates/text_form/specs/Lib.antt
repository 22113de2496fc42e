pub mod Readings
pub mod Lists
pub mod Rows
