-- Counters that stop at their last value, and what they show of a failed call.
--
-- The counts of calls and of faults are 64-bit numbers that stay at the last one once they are
-- there. So a count that stands at its last value may have risen without showing it.
-- Source: this project's own.
use Rattle.std.specs.Prelude.{◌≡◌, ℕ, ◌+◌, ◌-◌, ◌^◌, ◌<◌, min, ◌⊎◌}

-- where a counter stays
abbrev pub last_count : ℕ
last_count = 2 ^ 64 - 1

-- a counter after one more
abbrev pub next_count : ℕ → ℕ
next_count n = min (n + 1) last_count

-- a counter rose, or stands at its last value
abbrev pub Rose : ℕ → ℕ → Type 0
Rose before now = (before < now) ⊎ (now ≡ last_count)
