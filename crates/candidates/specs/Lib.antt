pub mod Held
pub mod Repeats
pub mod Places
pub mod Laws
pub mod Changes
