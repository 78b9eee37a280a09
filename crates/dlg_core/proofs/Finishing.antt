-- Why a cycle without threads ends, and with how few events. The number that each event makes less
-- is `left` (specs/Left); at the start it is the bound.
--
-- Less has the arithmetic of its parts; Falls, that each possible event leaves less; Handshakes,
-- that a turn does; Events and Turns, that each is possible on the way of a cycle; Cycles, the
-- loop.
pub mod Cycles
pub mod Events
pub mod Falls
pub mod Handshakes
pub mod Less
pub mod Turns
