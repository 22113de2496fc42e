pub mod Evidence
pub mod Laws
