pub mod Kept
pub mod Still
pub mod Most
pub mod After
