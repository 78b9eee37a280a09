pub mod Ends
pub mod Finds
pub mod Makes
pub mod Pacing
pub mod Walks
