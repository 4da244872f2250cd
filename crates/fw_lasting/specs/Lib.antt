pub mod Given
pub mod RootOver
pub mod Again
pub mod KeptStory
pub mod UnderWay
pub mod Starting
pub mod Reading
pub mod LawsOfLasting
