pub mod AfterEvent
pub mod Noticing
pub mod Outgoing
pub mod Sending
pub mod ToldSends
pub mod Taking
