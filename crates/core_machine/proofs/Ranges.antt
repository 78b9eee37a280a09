-- Why every event keeps the ranges that the machine's indexing and counting rest on.
--
-- Ranges/Lists  lists: what a write leaves, and how many cells are blue after it.
-- Ranges/Parts  one part of the state is changed: an own part, a presence, a colour, a field.
-- Ranges/Mutators, Ranges/Collecting  one event each: `KIND_keeps`.
-- Ranges/Events  all events together, and the opening.
pub mod Collecting
pub mod Events
pub mod Lists
pub mod Mutators
pub mod Parts
pub mod Start
