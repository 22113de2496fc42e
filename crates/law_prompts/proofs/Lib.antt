pub mod Frames
pub mod Rungs
