pub mod Head
pub mod Fields
pub mod Spelling
pub mod OfFlow
pub mod Sound
pub mod Reading
pub mod Decoding
