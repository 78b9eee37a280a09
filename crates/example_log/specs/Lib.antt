pub mod Appending
pub mod Leaving
pub mod Logging
pub mod Shrinks
