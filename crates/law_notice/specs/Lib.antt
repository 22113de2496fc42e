pub mod Kept
pub mod Agree
pub mod Most
pub mod Tells
