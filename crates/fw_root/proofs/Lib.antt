pub mod OfFlowLaws
pub mod ForLaws
pub mod ExactLaws
pub mod FieldLaws
pub mod MarkLaws
pub mod HeadLaws
pub mod ListLaws
pub mod RootLaws
