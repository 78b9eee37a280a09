pub mod Chain
pub mod Closing
pub mod Kept
pub mod Words
