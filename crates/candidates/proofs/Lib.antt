pub mod Places
pub mod Laws
pub mod Slices
