pub mod Exact
pub mod Expansion
pub mod LawsOfSplitting
pub mod SplitTotal
pub mod Unsplit
