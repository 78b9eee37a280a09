-- Why each event keeps the invariant, a file an event or a few.
pub mod Answer
pub mod Blacken
pub mod Claim
pub mod Clear
pub mod Holding
pub mod Mark
pub mod Post
pub mod Presence
pub mod Seal
pub mod Sweep
pub mod Trace
pub mod Waiting
pub mod Write
