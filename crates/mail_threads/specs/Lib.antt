pub mod Calls
pub mod Opened
pub mod Posts
pub mod Receipts
pub mod Taken
pub mod Workers
