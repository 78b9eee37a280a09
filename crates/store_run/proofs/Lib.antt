pub mod Closed
pub mod Counts
pub mod Ending
