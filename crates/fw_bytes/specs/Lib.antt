pub mod Fields
pub mod Spelling
pub mod Sound
pub mod Reading
pub mod Exact
