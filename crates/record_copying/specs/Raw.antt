-- A raw cell that is about to become the copy of a record.
-- Source: this project's.
use Rattle.std.specs.Prelude.{ℕ, ◌≡◌, true}
use Rattle.mutator_seat.specs.Bound.{Bound}
use Rattle.mutator_seat.specs.Claims.{Claimed}

-- The mutator is in, and claimed the cell at this place just now.
pub record HoldsRaw {P : Type 0} (place : ℕ) (m : Bound P) : Type 0 where
  pub inside : m.seat.me.presence.inside ≡ true
  pub before : Bound P
  pub claimed : Claimed before place m
