-- What a stretch of calls leaves of a mutator whose places after the first so many come and go.
-- Source: this project's own.
use Rattle.std.specs.Prelude.{ℕ, ◌≡◌, ◌≤◌, length, take}
use Rattle.mutator_seat.specs.Bound.{Bound, held_cells}
use Rattle.trails.specs.Asks.{Grown}
use Rattle.version_rule.specs.Pass.{Pass}
use Rattle.version_store.specs.Calls.{StaysKnown}
use Rattle.version_store.specs.Lasts.{IsSameMutator, marks}

-- It is the same mutator, in or out as it was, with its pass and its claims. The first so many
-- places hold what they held, what was known of them is still known, and the trail grew.
pub record Stays (places : ℕ) (m n : Bound Pass) : Type 0 where
  pub same : IsSameMutator m n
  pub longer : places ≤ length n.seat.me.own.held
  pub held : take places (held_cells n) ≡ take places (held_cells m)
  pub known : StaysKnown places m n
  pub pass : n.seat.me.pass ≡ m.seat.me.pass
  pub claims : n.seat.me.own.claims ≡ m.seat.me.own.claims
  pub grown : Grown (marks m) (marks n)
