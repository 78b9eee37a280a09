pub mod Laid
pub mod Looking
pub mod Seats
pub mod Shown
