pub mod Claims
pub mod Counts
pub mod Marks
pub mod Orders
pub mod Stretches
pub mod Telling
