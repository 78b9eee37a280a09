pub mod Ranks
pub mod Standing
