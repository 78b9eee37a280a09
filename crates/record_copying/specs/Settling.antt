-- What a mutator holds once the copies of its roots take their place.
-- Source: this project's.
use Rattle.std.specs.Prelude.{ℕ, ◌≡◌, ◌++◌, List, map, take}
use Rattle.minor_heap.specs.declared.fields.MinorField.{MinorField}
use Rattle.minor_heap.specs.declared.fields.MinorRef.{MinorRef}
use Rattle.mutator_seat.specs.Bound.{Bound, held_cells}
use Rattle.promotion.specs.Promoting.{Stays, knows_term}

-- The first places stay, and after them the copy of each root is held, in order, as a record that
-- denotes what its root did.
pub record Settled {P : Type 0} (old : Bound P) (records : List (List MinorField))
    (roots : List MinorRef) (base : ℕ) (new : Bound P) : Type 0 where
  pub cell : MinorRef → ℕ
  pub held : held_cells new ≡ take base (held_cells old) ++ map cell roots
  pub known : new.seat.me.known
      ≡ take base old.seat.me.known ++ map (knows_term old records) roots
  pub claims : new.seat.me.own.claims ≡ old.seat.me.own.claims
  pub stays : Stays old new
