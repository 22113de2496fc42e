pub mod Pick
pub mod Lists
pub mod Time
pub mod Options
pub mod Laws
