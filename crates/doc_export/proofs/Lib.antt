pub mod Closing
pub mod Copying
pub mod Keeping
pub mod Leaving
pub mod Listing
pub mod Looking
pub mod Turns
pub mod Without
