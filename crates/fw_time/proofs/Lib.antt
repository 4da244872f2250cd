pub mod DomainLaws
pub mod StampLaws
pub mod StampSteps
pub mod TimeLaws
pub mod Padded
