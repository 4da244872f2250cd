pub mod TalkLaws
pub mod LastingLaws
