pub mod Finding
pub mod Openings
pub mod Picking
pub mod Standing
pub mod Written
