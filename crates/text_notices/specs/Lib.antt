pub mod Places
pub mod Notices
pub mod Laws
