pub mod Draws
pub mod Laws
pub mod Texts
pub mod Writes
