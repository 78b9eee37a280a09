pub mod Descents
pub mod Ends
pub mod Heights
pub mod Lists
pub mod Steps
pub mod Turns
pub mod Spots
