pub mod LawsOfFetching
