pub mod Pass
pub mod Laws
