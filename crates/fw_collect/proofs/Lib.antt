pub mod ApplyLaws
pub mod CollectLaws
pub mod PlanLaws
