pub mod Event
pub mod Log
pub mod Fields
pub mod Spelling
pub mod Sound
pub mod Reading
pub mod OfNode
