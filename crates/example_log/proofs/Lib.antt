pub mod Ending
pub mod Exchanges
pub mod Finding
pub mod Growing
pub mod Openings
pub mod Picks
