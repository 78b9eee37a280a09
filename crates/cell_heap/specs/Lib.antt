pub mod Collecting
pub mod Progress
pub mod Runs
pub mod Scans
pub mod Telling
