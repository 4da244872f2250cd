pub mod Checkpoints
pub mod Sends
pub mod Settling
