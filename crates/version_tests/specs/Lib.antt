pub mod Grows
pub mod Serves
