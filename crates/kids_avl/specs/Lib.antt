pub mod Changes
pub mod Entries
pub mod Pool
pub mod Spots
