pub mod Kind
pub mod Put
pub mod Held
