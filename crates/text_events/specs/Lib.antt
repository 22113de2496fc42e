pub mod Named
pub mod Told
