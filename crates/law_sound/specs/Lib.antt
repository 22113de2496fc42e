pub mod Ladders
pub mod Parts
pub mod Cutover
pub mod Items
