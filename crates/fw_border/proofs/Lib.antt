pub mod NumberLaws
pub mod OutputLaws
pub mod RecsLaws
