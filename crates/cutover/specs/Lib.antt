pub mod Cutover
pub mod Most
