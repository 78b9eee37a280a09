pub mod Claiming
pub mod Counting
pub mod Getting
pub mod Out
