mod Signs
pub mod Waits
pub mod Laws
pub mod Worked
