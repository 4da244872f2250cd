pub mod ArrivalLaws
pub mod BagLaws
pub mod CountLaws
pub mod IterLaws
pub mod RecLaws
