pub mod AtClose
pub mod Going
pub mod Leaving
pub mod OneMore
pub mod Openings
pub mod Rooms
pub mod TakingBack
pub mod Waiting
