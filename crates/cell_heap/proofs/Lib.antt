mod Answering
mod AtHand
mod Changes
pub mod InARow
mod Joined
mod Kept
mod Made
mod Owed
mod Scanned
mod Single
mod Within
