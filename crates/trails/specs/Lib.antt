pub mod Asks
pub mod Claims
pub mod Marks
pub mod Stretches
pub mod Telling
