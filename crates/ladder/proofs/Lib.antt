pub mod Rungs
pub mod Worked
pub mod Laws
pub mod Counted
pub mod SoFar
pub mod Lent
pub mod Stays
