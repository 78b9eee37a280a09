-- Why garbage is freed by the end of the next cycle: the set that is followed, what kinds of change
-- leave of it, the events in four files, and the theorem.
pub mod Changes
pub mod Cycles
pub mod Events
pub mod Followed
pub mod Mutating
pub mod Posting
pub mod Quiet
pub mod Sweeping
pub mod Tracing
