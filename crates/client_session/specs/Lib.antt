pub mod Batches
pub mod Carries
pub mod Handles
pub mod Turns
