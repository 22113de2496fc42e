pub mod Hearing
pub mod Revert
pub mod Frames
