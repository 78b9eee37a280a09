pub mod Below
pub mod Counts
pub mod Hints
pub mod Passes
