pub mod Beginnings
pub mod CalledLaws
pub mod Known
pub mod Parts
pub mod TextLaws
