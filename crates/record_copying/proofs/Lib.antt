pub mod AfterRoots
pub mod Readiness
pub mod Slicing
pub mod Standing
