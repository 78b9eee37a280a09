pub mod Clients
pub mod Ends
pub mod Going
pub mod Opened
pub mod Taken
