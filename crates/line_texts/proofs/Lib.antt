pub mod Decimals
pub mod Cuts
pub mod Digits
pub mod Feeds
pub mod Rests
