pub mod Answers
pub mod Contents
pub mod Dump
pub mod Laws
pub mod Line
pub mod Listing
pub mod Order
