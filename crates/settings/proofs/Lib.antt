mod Places
pub mod Accepted
pub mod Worked
