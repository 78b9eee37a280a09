-- The generator of numbers: a linear congruential one, of which each draw shows the upper bits.
-- Source: the constants are those of the sample `rand` in the C standard (ISO C, 1990); which
-- client starts where is this project's own.
use Rattle.std.specs.Prelude.{ℕ, ◌+◌, ◌*◌, ◌/◌, ◌%◌}

-- the state before a client's first draw
abbrev pub opening_of : ℕ → ℕ → ℕ
opening_of start client = (start + client) % 2_147_483_648

-- the state after one more draw
abbrev pub state_after : ℕ → ℕ
state_after state = (1_103_515_245 * state + 12_345) % 2_147_483_648

-- the number that a draw shows, by the state after it
abbrev pub drawn_at : ℕ → ℕ
drawn_at state = state / 65_536
