pub mod BatchesText
pub mod FlowText
pub mod Grammar
pub mod Laws
pub mod Spelled
