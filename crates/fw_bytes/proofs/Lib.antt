pub mod PlaceLaws
pub mod FieldLaws
pub mod PartLaws
pub mod PartLoops
pub mod ListLaws
pub mod FrontLaws
pub mod WriteLaws
