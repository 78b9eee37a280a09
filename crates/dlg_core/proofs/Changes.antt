-- What kinds of change of a state keep the invariant. They name no event.
pub mod Field
pub mod Live
pub mod Noted
pub mod Own
pub mod Pass
pub mod Presence
pub mod Shade
pub mod Status
pub mod Sweep
