pub mod Items
pub mod Arrays
