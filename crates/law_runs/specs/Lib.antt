pub mod Late
pub mod Agree
pub mod Runs
pub mod Served
pub mod Others
pub mod Notices
pub mod Link
