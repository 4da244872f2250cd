pub mod Bags
pub mod Pairs
pub mod Cross
pub mod LawsOfPairs
