-- What the receiver has taken, and what its trail shows of it.
-- Source: this project's.
use Rattle.std.specs.Prelude.{ℕ, ◌≡◌, ◌≤◌, ◌++◌, List, [], ◌∷◌, length, Option, Some, None}
use Rattle.cell_words.specs.declared.fields.Field.TheVariants as field
use Rattle.cell_mailbox.specs.Ends.{take_asks}
use Rattle.mail_rule.specs.declared.items.Item.{Item}
use Rattle.mail_rule.specs.declared.mail_pass.MailPass.{MailPass}
use Rattle.trails.specs.Asks.{InOrder, gave_at}
use Rattle.trails.specs.Marks.{Mark}
use Rattle.trails.specs.Stretches.{InTurn}

-- a write of the anchor's field 0 that was made
pub record ShowsTake (marks : List Mark) : Type 0 where
  pub from : ℕ
  pub box : ℕ
  pub write : InOrder (take_asks from box) marks

-- a read of the anchor's field 0, and a later one of that box's field 3, which gave null
pub record ShowsNothing (marks : List Mark) : Type 0 where
  pub cell : ℕ
  pub reads : InOrder (gave_at 0 0 (field.Cell cell) ∷ gave_at cell 3 field.Null ∷ []) marks

-- what a stretch of the trail shows for an item, and for none
abbrev pub TurnShows : Option Item → List Mark → Type 0
TurnShows (Some item) marks = ShowsTake marks
TurnShows None marks = ShowsNothing marks

-- The trail has a stretch for each of so many turns, one after the other. The pass has what was
-- taken, in order, and nothing was sent.
pub record Receives (lines : ℕ) (items : List Item) (pass : MailPass) (marks : List Mark)
    : Type 0 where
  pub sends : pass.sends ≡ []
  pub takes : pass.takes ≡ items
  pub turns : List (Option Item)
  pub many : length turns ≡ lines
  pub shown : InTurn TurnShows turns marks

-- After the turns of so many lines there were more, one after the other, and the last of all found
-- nothing.
pub record Empties (lines : ℕ) (marks : List Mark) : Type 0 where
  pub turns : List (Option Item)
  pub many : lines ≤ length turns
  pub shown : InTurn TurnShows (turns ++ None ∷ []) marks
