pub mod Entries
pub mod View
pub mod Offering
pub mod Known
pub mod Shaped
