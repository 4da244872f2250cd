pub mod Held
pub mod Kept
pub mod Descent
pub mod Worklist
pub mod Trail
pub mod Tests
pub mod Finding
