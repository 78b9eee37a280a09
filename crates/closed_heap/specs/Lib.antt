pub mod Closing
pub mod Words
