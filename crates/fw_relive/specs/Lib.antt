pub mod Opening
pub mod Call
pub mod LawsOfCalls
