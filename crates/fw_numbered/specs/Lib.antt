pub mod Numbers
pub mod Sequence
pub mod Zip
pub mod LawsOfZips
