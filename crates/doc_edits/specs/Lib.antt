pub mod Ends
pub mod Entries
pub mod Pools
pub mod Sizes
pub mod Tops
