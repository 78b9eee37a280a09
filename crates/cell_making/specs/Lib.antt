pub mod Makes
pub mod Resting
