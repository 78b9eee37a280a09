-- The first draws of client 1 for the start 1, worked out by hand.
use Rattle.std.proofs.Common.{◌≡◌, ℕ, zero, suc, refl}
use Rattle.script_files.specs.Draws.{drawn_at, opening_of, state_after}

-- the state after so many draws
abbrev pub state_behind : ℕ → ℕ
state_behind zero = opening_of 1 1
state_behind (suc draws) = state_after (state_behind draws)

pub first_draws : (drawn_at (state_behind 1) ≡ 908) × (drawn_at (state_behind 2) ≡ 22_817)
    × (drawn_at (state_behind 3) ≡ 10_239) × (drawn_at (state_behind 4) ≡ 12_914)
first_draws = (refl, refl, refl, refl)
