pub mod Blank
pub mod Open
pub mod Exact
