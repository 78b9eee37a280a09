pub mod Events
pub mod Seats
pub mod Values
