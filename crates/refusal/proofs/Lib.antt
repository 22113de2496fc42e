pub mod Parts
pub mod Standing
pub mod First
pub mod Settings
