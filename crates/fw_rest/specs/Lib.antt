pub mod Rest
pub mod StepsToRest
pub mod Left
pub mod LawsOfRest
pub mod Coming
