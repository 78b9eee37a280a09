pub mod Commands
pub mod Limits
pub mod Readings
pub mod Requests
