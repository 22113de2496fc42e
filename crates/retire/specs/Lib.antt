pub mod Retire
