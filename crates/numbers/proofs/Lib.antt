pub mod Laws
pub mod Reached
