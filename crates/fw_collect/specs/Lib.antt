pub mod Drops
pub mod Dropped
pub mod LawsOfCollections
