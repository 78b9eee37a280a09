pub mod Closing
pub mod Each
pub mod Mutators
