pub mod Arrays
pub mod Offered
pub mod Pass
pub mod Passes
pub mod Slots
pub mod Backs
pub mod Std
