pub mod Padded
pub mod Stamp
pub mod StampText
pub mod Sending
pub mod NestLaws
