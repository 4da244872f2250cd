pub mod Below
pub mod DrawnLaws
pub mod FlowLaws
pub mod InputLaws
pub mod ScheduleLaws
pub mod WellFormed
pub mod Writing
