pub mod Early
pub mod Parts
pub mod Items
