pub mod BareLaws
pub mod CallLaws
pub mod ChoiceLaws
pub mod EntriesLaws
pub mod LineLaws
pub mod ReadBackLaws
pub mod ReadingLaws
