-- The items of a mailbox by their positions: all that were sent, in one list, and who sent and who
-- took which of them.
-- Source: this project's.
use Rattle.std.specs.Prelude.{ℕ, ◌+◌, ◌==◌, List, [], ◌∷◌, map, slice_index_or}
use Rattle.std.specs.Prelude.{if◌then◌else◌}
use Rattle.mail_rule.specs.declared.items.Item.{Item}
use Rattle.mail_rule.specs.declared.items.Sent.{Sent}

-- an item without its position
pub record Letter : Type 0 where
  pub sender : ℕ
  pub value : ℕ

-- what stands at position 0, where no item is: nobody sent it
abbrev pub no_letter : Letter
no_letter = record { sender = 0; value = 0 }

-- the letter at a position, of which the first has position 1
abbrev pub letter_at : List Letter → ℕ → Letter
letter_at letters position = slice_index_or (no_letter ∷ letters) position no_letter

abbrev pub item_at : List Letter → ℕ → Item
item_at letters position = record {
  position = position;
  sender = (letter_at letters position).sender;
  value = (letter_at letters position).value;
}

abbrev pub sent_at : List Letter → ℕ → Sent
sent_at letters position =
    record { position = position; value = (letter_at letters position).value }

abbrev pub senders : List Letter → List ℕ
senders letters = map (λ letter. letter.sender) letters

-- the positions at which somebody stands in a list, of which the first has this position
abbrev pub positions_of : ℕ → ℕ → List ℕ → List ℕ
positions_of who position [] = []
positions_of who position (one ∷ others) =
    if one == who then position ∷ positions_of who (position + 1) others
    else positions_of who (position + 1) others

-- what the sender with this number sent
abbrev pub sends_of : List Letter → ℕ → List Sent
sends_of letters sender = map (sent_at letters) (positions_of sender 1 (senders letters))

-- what this mutator took, where the first items were taken by these in turn
abbrev pub takes_of : List Letter → List ℕ → ℕ → List Item
takes_of letters takers taker = map (item_at letters) (positions_of taker 1 takers)
