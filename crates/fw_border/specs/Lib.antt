pub mod Sources
pub mod Outputs
pub mod Numbers
