pub mod Domains
pub mod Holding
pub mod Numbers
pub mod Pairs
