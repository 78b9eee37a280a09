pub mod EachDone
pub mod FirstRows
pub mod Joined
pub mod Sums
