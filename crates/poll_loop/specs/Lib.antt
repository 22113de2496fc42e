pub mod Passes
pub mod Worked
