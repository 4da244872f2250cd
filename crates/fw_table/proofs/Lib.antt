pub mod SumLaws
pub mod TableSteps
