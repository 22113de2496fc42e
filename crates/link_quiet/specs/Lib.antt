pub mod Due
pub mod Busy
pub mod Still
