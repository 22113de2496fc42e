pub mod Refused
pub mod Refusal
pub mod Standing
pub mod First
