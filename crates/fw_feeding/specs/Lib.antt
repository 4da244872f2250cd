pub mod Feeding
pub mod OpenRuns
pub mod FedRuns
pub mod FedEngines
pub mod LawsOfFeeding
