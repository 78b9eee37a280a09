pub mod Images
pub mod Joined
pub mod Opening
pub mod Seats
