pub mod Cost
pub mod Items
pub mod Pass
