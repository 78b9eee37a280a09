pub mod Answers
pub mod Contents
pub mod File
pub mod Line
pub mod Reach
