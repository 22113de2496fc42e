pub mod Blank
pub mod Parts
