pub mod Output
pub mod Summary
pub mod Loaded
pub mod Counted
pub mod Mailed
