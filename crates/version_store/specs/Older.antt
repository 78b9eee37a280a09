-- Older versions: the walk back along the links, and the cut of a link that is due.
-- Source: this project's.
use Rattle.std.specs.Prelude.{ℕ, ◌≡◌, ◌≤◌, ◌+◌, [], ◌∷◌, length}
use Rattle.mutator_seat.specs.Bound.{Bound}
use Rattle.version_rule.specs.Pass.{Pass, cutting}
use Rattle.version_rule.specs.declared.held.HeldVersion.{HeldVersion}
use Rattle.held_places.specs.Calls.{Goes}
use Rattle.version_store.specs.Calls.{Holds}
use Rattle.version_store.specs.Held.{IsHeld}

-- The version so many below is held at the next place. The pass is as it was.
pub record GivesOlder (old new : Bound Pass) (v : HeldVersion) (back : ℕ) (older : HeldVersion)
    : Type 0 where
  pub cell : ℕ
  pub goes : Goes [] old new
  pub holds : Holds (cell ∷ []) old new
  pub place_is : older.place ≡ length old.seat.me.own.held
  pub number_is : older.number + back ≡ v.number
  pub held : IsHeld new older
  pub pass : new.seat.me.pass ≡ old.seat.me.pass
  pub claims : new.seat.me.own.claims ≡ old.seat.me.own.claims

-- The link of a version on the way back from this one is null, at the oldest one that stays or
-- before it. The held list is as it was.
pub record Trims (old new : Bound Pass) (v : HeldVersion) (keep : ℕ) : Type 0 where
  pub goes : Goes [] old new
  pub holds : Holds [] old new
  pub cut : ℕ
  pub within : cut ≤ v.number
  pub due : v.number + 1 ≤ cut + keep
  pub pass : new.seat.me.pass ≡ cutting cut old.seat.me.pass
  pub claims : new.seat.me.own.claims ≡ old.seat.me.own.claims
