pub mod Laws
pub mod Most
pub mod Slots
