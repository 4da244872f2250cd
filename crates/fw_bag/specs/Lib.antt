pub mod Bag
pub mod Rec
pub mod RecText
pub mod Select
pub mod Keyed
pub mod Arrivals
