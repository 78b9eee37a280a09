-- What is written of a run of a mailbox: of each sender what its lines were answered, and then the
-- items that were received.
-- Source: this project's own.
use Rattle.std.specs.Prelude.{ℕ, ◌+◌, List, [], ◌∷◌, ◌++◌, Option, None, Some, Vec, codes, decimal}
use Rattle.std.specs.Prelude.{flat_map}
use Rattle.std.specs.declared.alloc.Global.{Global}
use Rattle.mail_rule.specs.declared.items.Item.{Item}

-- the position that a line's value was sent at, or that the heap was full
abbrev pub answer_text_of : Option ℕ → List ℕ
answer_text_of (Some position) = codes "sent " ++ decimal position ++ codes "\n"
answer_text_of None = codes "full\n"

-- the line of each answer, in order
abbrev pub answers_text_of : List (Option ℕ) → List ℕ
answers_text_of answers = flat_map answer_text_of answers

-- a sender's heading, and its answers below it
abbrev pub sender_text_of : ℕ → List (Option ℕ) → List ℕ
sender_text_of number answers =
    (codes "sender " ++ decimal number ++ codes "\n") ++ answers_text_of answers

-- the text of each sender, in order, of whom the first has this number
abbrev pub senders_text_from : ℕ → List (Vec (Option ℕ) Global) → List ℕ
senders_text_from number [] = []
senders_text_from number (answers ∷ senders) =
    sender_text_of number answers.items ++ senders_text_from (number + 1) senders

-- an item: its position, its sender and its value
abbrev pub item_text_of : Item → List ℕ
item_text_of item =
    decimal item.position ++ codes " " ++ decimal item.sender ++ codes " " ++ decimal item.value
    ++ codes "\n"

-- the line of each item, in order
abbrev pub items_text_of : List Item → List ℕ
items_text_of items = flat_map item_text_of items

-- the items below their heading
abbrev pub received_text_of : List Item → List ℕ
received_text_of items = codes "received\n" ++ items_text_of items

-- the whole text
abbrev pub mailed_text_of : List (Vec (Option ℕ) Global) → List Item → List ℕ
mailed_text_of sent items = senders_text_from 1 sent ++ received_text_of items
