pub mod Chosen
pub mod Collecting
pub mod Outlooks
