pub mod Colour
pub mod Control
pub mod Field
pub mod Modes
pub mod Presence
pub mod Term
