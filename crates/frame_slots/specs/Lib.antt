pub mod Frame
pub mod Most
