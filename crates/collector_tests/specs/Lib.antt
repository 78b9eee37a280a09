pub mod Away
pub mod Holding
pub mod Rows
pub mod Seats
