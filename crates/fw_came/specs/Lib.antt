pub mod Came
pub mod Source
pub mod LawsOfCame
