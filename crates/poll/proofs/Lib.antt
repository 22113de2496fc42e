pub mod Answer
pub mod Laws
pub mod Exact
pub mod Acts
