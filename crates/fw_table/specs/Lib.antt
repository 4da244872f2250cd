pub mod Content
pub mod SmallRecs
pub mod Sent
pub mod Sums
