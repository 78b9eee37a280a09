pub mod Packing
pub mod Passing
pub mod Reached
pub mod Spanning
pub mod Terms
mod Within
