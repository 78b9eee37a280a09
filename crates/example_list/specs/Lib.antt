pub mod Leaving
pub mod Pushing
