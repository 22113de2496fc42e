pub mod Events
pub mod Log
pub mod Queries
pub mod Told
pub mod Withdraw
