pub mod FetchedLaws
pub mod ReadsLaws
