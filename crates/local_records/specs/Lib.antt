pub mod Local
pub mod Settling
