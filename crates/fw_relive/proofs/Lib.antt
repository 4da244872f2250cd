pub mod OpeningLaws
pub mod AnswersLaws
pub mod CallLaws
pub mod NextLaws
