pub mod References
pub mod Roots
