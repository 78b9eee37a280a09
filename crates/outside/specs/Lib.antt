pub mod Causes
pub mod Calls
pub mod Pieces
pub mod Named
pub mod Memory
pub mod Devices
