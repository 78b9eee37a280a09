pub mod Closed
pub mod Comes
pub mod Rest
