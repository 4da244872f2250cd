pub mod Causes
pub mod Messages
pub mod Piles
pub mod Stamps
