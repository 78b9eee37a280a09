pub mod Kept
pub mod Leaving
pub mod Makes
pub mod Places
pub mod Readings
pub mod Resting
