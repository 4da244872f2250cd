pub mod HeldStepLaws
pub mod ResumedLaws
pub mod RootLaws
pub mod StoreLaws
