pub mod Places
pub mod Safety
pub mod Turns
pub mod Words
