pub mod Makings
pub mod Openings
pub mod Plain
pub mod Sharing
