pub mod Inside
pub mod Rounds
pub mod Terms
