pub mod Story
pub mod Opening
pub mod Session
pub mod FedRunning
pub mod LawsOfStories
