pub mod Batches
pub mod Faults
pub mod Inputs
pub mod Lines
pub mod Refusal
pub mod Sources
pub mod Spelling
pub mod Written
