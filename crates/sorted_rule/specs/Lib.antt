pub mod Open
pub mod Opening
pub mod Sorted
pub mod Sorts
