pub mod Copied
pub mod Openings
pub mod Working
