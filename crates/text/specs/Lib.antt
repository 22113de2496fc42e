pub mod Bytes
pub mod Faults
pub mod Fields
pub mod Numbers
pub mod Scans
pub mod Signs
