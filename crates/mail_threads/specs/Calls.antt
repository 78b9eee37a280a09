-- What one line and one turn leave, and several of them.
-- Source: this project's.
use Rattle.std.specs.Prelude.{ℕ, ◌≡◌, ◌≤◌, ◌+◌, ◌++◌, true, List, [], length}
use Rattle.std.specs.Prelude.{Option, Some, None}
use Rattle.cell_mailbox.specs.Ends.{Returns}
use Rattle.mail_rule.specs.Passes.{having_sent, having_taken}
use Rattle.mail_rule.specs.declared.items.Item.{Item}
use Rattle.mail_rule.specs.declared.mail_pass.MailPass.{MailPass}
use Rattle.mutator_seat.specs.Bound.{Bound}
use Rattle.trails.specs.Marks.{Mark, marks_of}
use Rattle.trails.specs.Stretches.{Had, InTurn}
use Rattle.mail_threads.specs.Posts.{AnswerShows, Posts}
use Rattle.mail_threads.specs.Receipts.{Receives, TurnShows}

-- what the trail of a mutator shows
abbrev pub marks : Bound MailPass → List Mark
marks m = marks_of m.seat.me.trail

-- it is in, with room for a call, and neither sent nor took anything
pub record IsFresh (m : Bound MailPass) : Type 0 where
  pub inside : m.seat.me.presence.inside ≡ true
  pub room : length m.seat.me.own.held + 8 ≤ m.seat.me.room
  pub sends : m.seat.me.pass.sends ≡ []
  pub takes : m.seat.me.pass.takes ≡ []

-- the pass with a line that has this position, or none
abbrev pub with_line : ℕ → Option ℕ → MailPass → MailPass
with_line value (Some position) pass =
    having_sent (record { position = position; value = value }) pass
with_line value None pass = pass

abbrev pub with_item : Option Item → MailPass → MailPass
with_item (Some item) pass = having_taken item pass
with_item None pass = pass

-- one line
pub record PostsOne (value : ℕ) (answer : Option ℕ) (old new : Bound MailPass) : Type 0 where
  pub returns : Returns [] old new
  pub pass : new.seat.me.pass ≡ with_line value answer old.seat.me.pass
  pub shows : Had (AnswerShows old.seat.me.shape.cells answer) (marks old) (marks new)

-- and one turn
pub record TakesOne (answer : Option Item) (old new : Bound MailPass) : Type 0 where
  pub returns : Returns [] old new
  pub pass : new.seat.me.pass ≡ with_item answer old.seat.me.pass
  pub shows : Had (TurnShows answer) (marks old) (marks new)

-- these lines were sent by a mutator that had sent nothing
pub record Posted (lines : List ℕ) (answers : List (Option ℕ)) (old new : Bound MailPass)
    : Type 0 where
  pub returns : Returns [] old new
  pub posts : Posts old.seat.me.shape.cells lines answers new.seat.me.pass (marks new)

-- so many turns were taken, by a mutator that had taken nothing
pub record Received (lines : ℕ) (items : List Item) (old new : Bound MailPass) : Type 0 where
  pub returns : Returns [] old new
  pub receives : Receives lines items new.seat.me.pass (marks new)

-- More items were taken: the list gained just what the pass did, and the trail has more turns.
pub record Drained (before items : List Item) (old new : Bound MailPass) : Type 0 where
  pub more : List Item
  pub items_are : items ≡ before ++ more
  pub takes : new.seat.me.pass.takes ≡ old.seat.me.pass.takes ++ more
  pub sends : new.seat.me.pass.sends ≡ old.seat.me.pass.sends
  pub turns : List (Option Item)
  pub shown : (earlier : List (Option Item)) → InTurn TurnShows earlier (marks old)
      → InTurn TurnShows (earlier ++ turns) (marks new)

-- and after them a turn that found nothing, which was the last
pub record Emptied (before items : List Item) (old new : Bound MailPass) : Type 0 where
  pub from : Bound MailPass
  pub drained : Drained before items old from
  pub last : TakesOne None from new
