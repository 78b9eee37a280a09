pub mod Claiming
pub mod Filling
pub mod Naming
pub mod OneRead
pub mod Resting
pub mod Sealing
pub mod Searching
