-- A mutator's status word: the handshake that it answered last, and whether it takes part.
-- Source: Doligez and Leroy, POPL 1993, and Doligez and Gonthier, POPL 1994 (the three statuses).
-- This project's: the two flags and the layout of the word.
use Rattle.std.specs.Prelude.{ℕ, ◌≡◌, IsTrue, ◌+◌, Bool, true, false, ◌&&◌, not}
use Rattle.cell_words.specs.declared.presences.Status.{Status}
use Rattle.cell_words.specs.declared.presences.Status.TheVariants.{Async, Sync1, Sync2}
use Rattle.cell_words.specs.declared.presences.Presence.{Presence}

-- the status in the two low bits
abbrev pub pack_status_of : Status → ℕ
pack_status_of Async = 0
pack_status_of Sync1 = 1
pack_status_of Sync2 = 2

-- the value of one bit
abbrev pub flag_of : Bool → ℕ → ℕ
flag_of true bit = bit
flag_of false bit = 0

-- the word of a presence
abbrev pub pack_presence_of : Presence → ℕ
pack_presence_of p = pack_status_of p.status + flag_of p.inside 4 + flag_of p.over 8

-- the presence has a word: nobody is in an operation and over at once
abbrev pub is_valid_presence : Presence → Bool
is_valid_presence p = not (p.inside && p.over)

-- the word is some presence's
abbrev pub IsPresenceWord : ℕ → Type 0
IsPresenceWord word = (presence : Presence)
    × IsTrue (is_valid_presence presence) × (pack_presence_of presence ≡ word)
