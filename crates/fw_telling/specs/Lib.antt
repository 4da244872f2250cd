pub mod Handed
pub mod Names
pub mod Read
