pub mod Causes
pub mod Down
pub mod GotBack
pub mod Greatest
pub mod RootOf
pub mod Third
