pub mod Lines
pub mod Parts
pub mod Quoting
pub mod Seconds
pub mod Versions
