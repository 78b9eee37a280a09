-- What the reads of a mailbox find.
-- Source: this project's.
use Rattle.std.specs.Prelude.{ℕ, zero, suc, ◌≡◌, ◌+◌, List, [], ◌∷◌, length}
use Rattle.cell_words.specs.declared.fields.Field.TheVariants as field
use Rattle.heap_rule.specs.Asks.{target}
use Rattle.mail_rule.specs.Knowing.{KnowsItem}
use Rattle.mail_rule.specs.Told.{IsSmall}
use Rattle.mail_rule.specs.declared.items.Item.{Item}
use Rattle.mutator_seat.specs.Bound.{Bound}
use Rattle.trails.specs.Asks.{Ask, gave_at}
use Rattle.held_places.specs.Calls.{Goes, Holds, IsCoherent}
use Rattle.mail_rule.specs.declared.mail_pass.MailPass.{MailPass}
use Rattle.mail_rule.specs.Mail.{is_fixed}

-- Reads that show these in the trail, and after which these cells are held after all others. The
-- pass is as it was.
pub record Reads (asks : List Ask) (cells : List ℕ) (old new : Bound MailPass) : Type 0 where
  pub goes : Goes asks old new
  pub holds : Holds is_fixed cells old new
  pub pass : new.seat.me.pass ≡ old.seat.me.pass
  pub coherent : IsCoherent old.seat.me
  pub many : length new.seat.me.known ≡ length new.seat.me.own.held

-- This field of the cell at a place is the box of an item, which is held at the next place.
pub record FindsItem (old new : Bound MailPass) (place f found : ℕ) : Type 0 where
  pub cell : ℕ
  pub item : Item
  pub reads : Reads (gave_at (target old.seat.me place) f (field.Cell cell) ∷ []) (cell ∷ [])
      old new
  pub found_is : found ≡ length old.seat.me.own.held
  pub knows : KnowsItem new.seat.me found item
  pub small : IsSmall item

-- it is the item after the one at that place
pub record FindsNext (old new : Bound MailPass) (place next : ℕ) : Type 0 where
  pub finds : FindsItem old new place 3 next
  pub follows : (item : Item) → KnowsItem old.seat.me place item
      → finds.item.position ≡ item.position + 1

-- no item comes after it
pub record FindsLast (old new : Bound MailPass) (place : ℕ) : Type 0 where
  pub reads : Reads (gave_at (target old.seat.me place) 3 field.Null ∷ []) [] old new

-- position, sender and value, by their fields
abbrev pub part_of : ℕ → Item → ℕ
part_of zero item = item.position
part_of (suc zero) item = item.sender
part_of (suc (suc n)) item = item.value

-- a part of the item at a place
pub record FindsPart (old new : Bound MailPass) (place part number : ℕ) : Type 0 where
  pub reads : Reads (gave_at (target old.seat.me place) part (field.Num number) ∷ []) [] old new
  pub is : (item : Item) → KnowsItem old.seat.me place item → number ≡ part_of part item
  pub small : (item : Item) → KnowsItem old.seat.me place item → IsSmall item

-- and all of it
pub record FindsWhole (old new : Bound MailPass) (place : ℕ) (found : Item) : Type 0 where
  pub reads : Reads [] [] old new
  pub is : (item : Item) → KnowsItem old.seat.me place item → found ≡ item
