pub mod Collecting
pub mod Counting
pub mod Fetching
pub mod Storing
pub mod Working
