pub mod Frames
pub mod Exact
