pub mod Holding
pub mod Leaving
pub mod ReadBack
pub mod Rule
pub mod Working
