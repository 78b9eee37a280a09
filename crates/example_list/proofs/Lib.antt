pub mod Ending
pub mod Finding
pub mod Making
pub mod Openings
pub mod Settled
