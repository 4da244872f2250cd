pub mod Asked
pub mod Built
pub mod Edges
pub mod Lending
pub mod New
pub mod Replay
pub mod Restored
pub mod Tables
