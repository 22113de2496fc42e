pub mod Every
pub mod Stays
pub mod Frames
pub mod Notices
pub mod Rungs
