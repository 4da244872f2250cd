pub mod Answers
pub mod Choices
pub mod Laws
pub mod Reading
pub mod Status
pub mod Texts
pub mod Words
