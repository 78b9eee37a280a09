mod Ending
mod Finding
mod Making
mod Openings
mod Putting
pub mod Reading
mod Words
