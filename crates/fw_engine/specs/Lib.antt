pub mod Engine
pub mod Feeding
pub mod Right
pub mod Searching
