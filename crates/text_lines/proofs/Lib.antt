mod Laws
mod Lines
pub mod Puts
