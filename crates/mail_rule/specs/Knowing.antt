-- What a mutator is told of items, what it needs for a send and a take, and the passes that it
-- picks.
-- Source: this project's.
use Rattle.std.specs.Prelude.{ℕ, ◌≡◌, ◌<◌, ◌+◌, List, [], ◌∷◌, length, Option, Some, None}
use Rattle.std.specs.Prelude.{slice_index_or}
use Rattle.cell_words.specs.declared.fields.Field.{Field}
use Rattle.cell_words.specs.declared.fields.Field.TheVariants as field
use Rattle.cell_words.specs.Term.{Term, num}
use Rattle.run_limits.specs.declared.TheConstants.{MOST_COMMANDS}
use Rattle.core_machine.specs.declared.events.Found.{Found}
use Rattle.heap_rule.specs.Asks.{known_of, target}
use Rattle.heap_rule.specs.Lore.{was_made}
use Rattle.heap_rule.specs.declared.known.Known.{Known}
use Rattle.heap_rule.specs.declared.known.Known.TheVariants as knows
use Rattle.heap_rule.specs.declared.known.Learned.{Learned}
use Rattle.heap_rule.specs.declared.view.View.{View}
use Rattle.mail_rule.specs.Passes.{sent_if, taken_if}
use Rattle.mail_rule.specs.declared.items.Item.{Item}
use Rattle.mail_rule.specs.declared.items.Sent.{Sent}
use Rattle.mail_rule.specs.declared.mail_pass.MailPass.{MailPass}

-- it is the box of this item
pub record IsItemKnown (k : Known) (item : Item) : Type 0 where
  pub told : List (Option Term)
  pub is : k ≡ knows.Boxed told
  pub position_is : slice_index_or told 0 None ≡ Some (num item.position)
  pub sender_is : slice_index_or told 1 None ≡ Some (num item.sender)
  pub value_is : slice_index_or told 2 None ≡ Some (num item.value)

-- the cell at this place is known to be that
pub record KnowsItem (v : View MailPass) (place : ℕ) (item : Item) : Type 0 where
  pub there : place < length v.own.held
  pub known : IsItemKnown (known_of v place) item

-- The passes that are picked.

-- a write over null in the last box: the item is sent if null was there
abbrev pub next_sent : Sent → Learned → Found → MailPass → MailPass
next_sent sent tells found pass = sent_if (was_made field.Null found) sent pass

-- a write of the anchor's field: the item is taken if the box before it was there
abbrev pub next_taken : Field → Item → Learned → Found → MailPass → MailPass
next_taken old item tells found pass = taken_if (was_made old found) item pass

-- the fields of a box that is to be sent
abbrev pub item_fields : Item → List Field
item_fields item =
    field.Num item.position ∷ field.Num item.sender ∷ field.Num item.value ∷ field.Null ∷
    field.Null ∷ []

-- What a mutator needs for a send: the place of the item that this one is to follow, and a fresh
-- box for it. Whether that item is still the last one the write itself asks.
pub record MaySend (v : View MailPass) (place box : ℕ) (sent : Sent) : Type 0 where
  pub last : Item
  pub held : KnowsItem v place last
  pub follows : sent.position ≡ last.position + 1
  pub box_there : box < length v.own.held
  pub box_is : known_of v box ≡ knows.Fresh (item_fields record {
    position = sent.position;
    sender = v.number + 1;
    value = sent.value;
  })
  pub few : length v.pass.sends < MOST_COMMANDS

-- And for a take: the anchor's place, that of the item which was taken last when it was read, and
-- that of the item after it.
pub record MayTake (v : View MailPass) (place latest next : ℕ) (item : Item) : Type 0 where
  pub anchor : target v place ≡ 0
  pub last : Item
  pub held : KnowsItem v latest last
  pub follows : item.position ≡ last.position + 1
  pub next_held : KnowsItem v next item
