pub mod Due
pub mod Wake
pub mod Quiet
pub mod Laws
