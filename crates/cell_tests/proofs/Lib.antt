mod Anchored
mod Boxes
mod Ending
mod Opens
mod Rounds
mod Sums
