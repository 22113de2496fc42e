pub mod Put
pub mod Held
