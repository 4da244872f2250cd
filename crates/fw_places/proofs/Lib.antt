pub mod PlaceLaws
pub mod MarkLaws
