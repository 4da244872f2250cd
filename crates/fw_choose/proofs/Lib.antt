pub mod CollectLaws
pub mod ViewLaws
pub mod KnownLaws
pub mod HeldLaws
