pub mod Numbers
pub mod Reason
pub mod Cases
