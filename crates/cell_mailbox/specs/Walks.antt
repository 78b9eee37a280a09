-- The walk to the last item: how far it has come, and where it ends.
-- Source: this project's.
use Rattle.std.specs.Prelude.{ℕ, ◌≡◌, ◌≢◌, ◌<◌, ◌++◌, true, [], ◌∷◌, length}
use Rattle.heap_rule.specs.Asks.{known_of, target}
use Rattle.mail_rule.specs.Knowing.{KnowsItem}
use Rattle.mail_rule.specs.Told.{IsSmall}
use Rattle.mail_rule.specs.declared.items.Item.{Item}
use Rattle.mail_rule.specs.declared.mail_pass.MailPass.{MailPass}
use Rattle.mutator_seat.specs.Bound.{Bound, held_cells}
use Rattle.held_places.specs.Calls.{Goes, known_fresh}
use Rattle.cell_mailbox.specs.Ends.{AllKnown}
use Rattle.cell_mailbox.specs.Pacing.{Prompt}

-- one item is held after all that was held before
pub record Stands (old new : Bound MailPass) (held : ℕ) : Type 0 where
  pub goes : Goes [] old new
  pub cell : ℕ
  pub cells : held_cells new ≡ held_cells old ++ cell ∷ []
  pub item : Item
  pub knows : KnowsItem new.seat.me held item
  pub small : IsSmall item
  pub known : AllKnown old new
  pub pass : new.seat.me.pass ≡ old.seat.me.pass
  pub many : length new.seat.me.known ≡ length new.seat.me.own.held

-- and this is its position
pub record EndsAt (old new : Bound MailPass) (held position : ℕ) : Type 0 where
  pub stands : Stands old new held
  pub position_is : position ≡ stands.item.position
  -- its cell is none that was fresh before
  pub apart : (place : ℕ) → place < length old.seat.me.own.held
      → known_fresh (known_of old.seat.me place) ≡ true
      → target old.seat.me place ≢ target new.seat.me held

-- Such a walk is among the events of a call, and it answers in time.
pub record Walked (old new : Bound MailPass) : Type 0 where
  pub from : Bound MailPass
  pub to : Bound MailPass
  pub held : ℕ
  pub position : ℕ
  pub before : Goes [] old from
  pub ends : EndsAt from to held position
  pub prompt : Prompt from to
  pub after : Goes [] to new
