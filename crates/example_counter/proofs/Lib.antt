pub mod Adds
pub mod Anchors
pub mod Ending
pub mod Exchanges
pub mod Numbers
pub mod Openings
pub mod Picks
