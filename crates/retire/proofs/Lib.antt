pub mod Most
pub mod Laws
pub mod Told
