pub mod Parts
pub mod Stands
pub mod Laws
