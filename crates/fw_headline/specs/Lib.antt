pub mod LawsOfTrails
pub mod Right
