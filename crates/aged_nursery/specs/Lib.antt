pub mod Aged
pub mod Copies
pub mod Lending
pub mod Survivors
