pub mod Answered
pub mod Finished
pub mod Parts
