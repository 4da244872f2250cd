pub mod SourceLaws
pub mod InputLaws
pub mod WrittenLaws
pub mod SameLaws
