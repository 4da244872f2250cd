pub mod DenotationTextLaws
pub mod EpochPartLaws
pub mod FormLaws
pub mod ReadCounts
pub mod TextLaws
pub mod WritingLaws
