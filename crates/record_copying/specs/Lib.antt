pub mod Copies
pub mod Raw
pub mod Settling
pub mod Table
