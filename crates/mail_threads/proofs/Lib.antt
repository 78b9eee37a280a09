pub mod Going
pub mod Leaving
pub mod Lines
pub mod Openings
pub mod Turns
