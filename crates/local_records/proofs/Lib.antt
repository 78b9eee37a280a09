pub mod Ending
pub mod Fields
pub mod Keeping
pub mod Naming
pub mod Places
