-- What a read of the anchor or of an item's box tells, at its step.
-- Source: this project's.
use Rattle.std.specs.Prelude.{ℕ, ◌≡◌, ◌≤◌, ◌+◌, ◌⊎◌}
use Rattle.cell_words.specs.declared.fields.Field.TheVariants as field
use Rattle.run_limits.specs.declared.TheConstants.{MOST_CLIENTS, MOST_VERSIONS}
use Rattle.core_machine.specs.declared.events.Found.{Found}
use Rattle.core_machine.specs.declared.events.Found.TheVariants as finds
use Rattle.heap_rule.specs.declared.known.Learned.{Learned}
use Rattle.mail_rule.specs.Knowing.{IsItemKnown}
use Rattle.mail_rule.specs.declared.items.Item.{Item}

-- there are at most so many items, and so many senders
pub record IsSmall (item : Item) : Type 0 where
  pub position : item.position ≤ MOST_VERSIONS
  pub sender : item.sender ≤ MOST_CLIENTS

-- what was found is the box of an item
pub record TellsItem (tells : Learned) (found : Found) (item : Item) : Type 0 where
  pub cell : ℕ
  pub found_is : found ≡ finds.Field (field.Cell cell)
  pub known : IsItemKnown tells.found item
  pub small : IsSmall item

-- the anchor's field is the box of the item that was taken last
pub record TellsLatest (tells : Learned) (found : Found) : Type 0 where
  pub item : Item
  pub tells_item : TellsItem tells found item

-- an item's next field is the box of the item after it
pub record TellsFollowing (position : ℕ) (tells : Learned) (found : Found) : Type 0 where
  pub item : Item
  pub follows : item.position ≡ position + 1
  pub tells_item : TellsItem tells found item

-- or it is null
abbrev pub TellsNext : ℕ → Learned → Found → Type 0
TellsNext position tells found =
    (found ≡ finds.Field field.Null) ⊎ TellsFollowing position tells found
