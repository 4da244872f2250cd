pub mod WeightLaws
pub mod PairLaws
pub mod CrossLaws
pub mod HeldLaws
