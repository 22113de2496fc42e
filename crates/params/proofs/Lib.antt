mod Sums
pub mod Laws
pub mod Spans
pub mod Worked
