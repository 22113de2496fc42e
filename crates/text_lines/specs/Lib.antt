pub mod Inputs
pub mod Outputs
pub mod Puts
