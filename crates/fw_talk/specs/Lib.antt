pub mod Talk
pub mod Lasting
