pub mod Bound
pub mod Claims
pub mod Pacing
pub mod Searches
pub mod Stores
pub mod Stretches
pub mod Takes
pub mod Writes
