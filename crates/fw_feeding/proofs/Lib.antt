pub mod AlikeLaws
pub mod AlikeChoices
pub mod AlikeSteps
pub mod OpenRunLaws
pub mod FedRunLaws
pub mod FedSourceLaws
pub mod FedEngineLaws
