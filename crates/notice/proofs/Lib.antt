pub mod Exact
pub mod Answer
pub mod Promise
