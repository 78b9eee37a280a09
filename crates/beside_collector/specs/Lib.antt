pub mod Coming
pub mod Duty
pub mod Freed
pub mod Places
pub mod Scripts
pub mod Service
pub mod Serving
pub mod Splitting
