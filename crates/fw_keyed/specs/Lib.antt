pub mod Seen
pub mod Sides
pub mod Tables
