pub mod NumberLaws
pub mod WaitingLaws
pub mod ZipLaws
pub mod SettledZips
pub mod LesserOfTwo
pub mod TurnLaws
