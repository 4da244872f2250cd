pub mod Records
pub mod ToldLaws
