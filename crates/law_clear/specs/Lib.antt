pub mod Ladders
pub mod Lists
pub mod Due
pub mod Named
pub mod Moves
pub mod Passes
pub mod ItemKinds
