pub mod Schedule
pub mod Fill
pub mod Took
pub mod Ladder
pub mod Worked
pub mod Laws
pub mod Taken
pub mod Lent
