pub mod StoryLaws
pub mod FedRunningLaws
pub mod SessionLaws
pub mod OpeningLaws
pub mod TurnLaws
