-- How a take and a send end: the one write that did it, or why there was none.
-- Source: this project's.
use Rattle.std.specs.Prelude.{ℕ, ◌≡◌, ◌++◌, List, [], ◌∷◌, length}
use Rattle.cell_words.specs.declared.fields.Field.TheVariants as field
use Rattle.core_machine.specs.declared.events.Event.{Event}
use Rattle.core_machine.specs.declared.events.Event.TheVariants as event
use Rattle.core_machine.specs.declared.events.Found.{Found}
use Rattle.core_machine.specs.declared.events.Found.TheVariants as finds
use Rattle.core_machine.specs.declared.events.Taken.{Taken}
use Rattle.cell_words.specs.declared.fields.Field.{Field}
use Rattle.heap_rule.specs.declared.known.Learned.{Learned}
use Rattle.heap_rule.specs.declared.view.View.{View}
use Rattle.mail_rule.specs.Knowing.{next_sent, next_taken}
use Rattle.mail_rule.specs.Mail.{HoldsMail, is_fixed}
use Rattle.mail_rule.specs.Passes.{having_sent, having_taken}
use Rattle.mail_rule.specs.declared.items.Item.{Item}
use Rattle.mail_rule.specs.declared.items.Sent.{Sent}
use Rattle.mail_rule.specs.declared.mail_pass.MailPass.{MailPass}
use Rattle.mutator_events.specs.Events.{AtEvent}
use Rattle.mutator_seat.specs.Bound.{Bound, held_cells}
use Rattle.mutator_seat.specs.Stretches.{Calm}
use Rattle.mutator_seat.specs.declared.full.HeapFull.{HeapFull}
use Rattle.trails.specs.Asks.{Ask, gave_at, wrote_at}
use Rattle.trails.specs.Claims.{FindsFull}
use Rattle.held_places.specs.Calls.{Goes, StaysKnown}
use Rattle.cell_mailbox.specs.declared.turns.Post.{Post}
use Rattle.cell_mailbox.specs.declared.turns.Post.TheVariants as posts
use Rattle.cell_mailbox.specs.declared.turns.Turn.{Turn}
use Rattle.cell_mailbox.specs.declared.turns.Turn.TheVariants as turns

-- what was known of the places that were held is still known
abbrev pub AllKnown : Bound MailPass → Bound MailPass → Type 0
AllKnown old new = StaysKnown is_fixed (length old.seat.me.own.held) old new

-- The trail grew by events that show these, and of the earlier places no less is known.
pub record Leaves (asks : List Ask) (old new : Bound MailPass) : Type 0 where
  pub goes : Goes asks old new
  pub cells : List ℕ
  pub held : held_cells new ≡ held_cells old ++ cells
  pub known : AllKnown old new

-- the held list is as it was
pub record Returns (asks : List Ask) (old new : Bound MailPass) : Type 0 where
  pub goes : Goes asks old new
  pub held : held_cells new ≡ held_cells old

-- Up to a write the pass is as it was. The write found what it was to find, and after it the pass
-- is the one that was picked there. The two records below say what the pass is at the end.
pub record AtOneWrite (old new : Bound MailPass) (writes : View MailPass → Event)
    (next : Learned → Found → MailPass → MailPass) (found : Field) : Type 0 where
  pub at : View MailPass
  pub before : List Taken
  pub trail_before : at.trail ≡ old.seat.me.trail ++ before
  pub number_before : at.number ≡ old.seat.me.number
  pub pass_before : at.pass ≡ old.seat.me.pass
  pub behind : View MailPass
  pub step : AtEvent HoldsMail is_fixed at (writes at) next (finds.Field found) behind
  pub after : List Taken
  pub trail_after : new.seat.me.trail ≡ behind.trail ++ after

-- an item was taken: the anchor went from the box before it to its own
pub record TookOnce (old new : Bound MailPass) (item : Item) : Type 0 where
  pub from : ℕ
  pub box : ℕ
  pub write : AtOneWrite old new
      (λ v. event.Write v.number 0 0 (field.Cell from) (field.Cell box))
      (next_taken (field.Cell from) item) (field.Cell from)
  pub pass : new.seat.me.pass ≡ having_taken item old.seat.me.pass

-- an item was sent: a box became the one after the last
pub record SentOnce (old new : Bound MailPass) (sent : Sent) : Type 0 where
  pub place : ℕ
  pub box : ℕ
  pub write : AtOneWrite old new
      (λ v. event.Write v.number place 3 field.Null (field.Cell box))
      (next_sent sent) field.Null
  pub pass : new.seat.me.pass ≡ having_sent sent old.seat.me.pass

-- What a call answers.

-- the trail shows the write of a take: of the anchor's field, and made
abbrev pub take_asks : ℕ → ℕ → List Ask
take_asks from box = wrote_at 0 0 (field.Cell from) (field.Cell box) (field.Cell from) ∷ []

pub record Takes (old new : Bound MailPass) (item : Item) : Type 0 where
  pub took : TookOnce old new item
  pub returns : Returns (take_asks took.from took.box) old new
  pub known : AllKnown old new

-- the box that a read found at the anchor had null in its next field at a later read
pub record FindsEmpty (old new : Bound MailPass) : Type 0 where
  pub cell : ℕ
  pub returns : Returns
      (gave_at 0 0 (field.Cell cell) ∷ gave_at cell 3 field.Null ∷ []) old new
  pub pass : new.seat.me.pass ≡ old.seat.me.pass
  pub known : AllKnown old new

-- the trail shows the write of a send: of the next field of the box that was last, and made
abbrev pub send_asks : ℕ → ℕ → List Ask
send_asks last box = wrote_at last 3 field.Null (field.Cell box) field.Null ∷ []

pub record Sends (old new : Bound MailPass) (sent : Sent) : Type 0 where
  pub returns : Returns [] old new
  pub sent_once : SentOnce old new sent
  pub last : ℕ
  pub shown : Goes (send_asks last sent_once.box) old new
  pub known : AllKnown old new

-- Among the events of this call is a stretch that found the heap full, as a claim tells it.
pub record FindsFullHeap (old new : Bound MailPass) (full : HeapFull) : Type 0 where
  pub returns : Returns [] old new
  pub pass : new.seat.me.pass ≡ old.seat.me.pass
  pub known : AllKnown old new
  pub from : Bound MailPass
  pub to : Bound MailPass
  pub before : Goes [] old from
  pub number_is : from.seat.me.number ≡ old.seat.me.number
  pub shape_is : from.seat.me.shape ≡ old.seat.me.shape
  pub stretch : Calm (FindsFull from.seat.me.number from.seat.me.shape.cells full.off_duty
      full.began full.ended) from to
  pub after : Goes [] to new

-- nothing was done yet
pub record Rests (old new : Bound MailPass) : Type 0 where
  pub returns : Returns [] old new
  pub pass : new.seat.me.pass ≡ old.seat.me.pass
  pub known : AllKnown old new

-- What a try ends with, before places are given back.

pub record LostTry (old new : Bound MailPass) : Type 0 where
  pub leaves : Leaves [] old new
  pub pass : new.seat.me.pass ≡ old.seat.me.pass

pub record TookTry (old new : Bound MailPass) (item : Item) : Type 0 where
  pub took : TookOnce old new item
  pub leaves : Leaves (take_asks took.from took.box) old new

pub record EmptyTry (old new : Bound MailPass) : Type 0 where
  pub cell : ℕ
  pub leaves : Leaves (gave_at 0 0 (field.Cell cell) ∷ gave_at cell 3 field.Null ∷ []) old new
  pub pass : new.seat.me.pass ≡ old.seat.me.pass

abbrev pub TurnEnds : Bound MailPass → Bound MailPass → Turn → Type 0
TurnEnds old new (turns.Took item) = TookTry old new item
TurnEnds old new turns.Empty = EmptyTry old new
TurnEnds old new turns.Lost = LostTry old new

pub record SentTry (old new : Bound MailPass) (sent : Sent) : Type 0 where
  pub sent_once : SentOnce old new sent
  pub last : ℕ
  pub leaves : Leaves (send_asks last sent_once.box) old new

pub record FullTry (old new : Bound MailPass) (full : HeapFull) : Type 0 where
  pub leaves : Leaves [] old new
  pub pass : new.seat.me.pass ≡ old.seat.me.pass
  pub from : Bound MailPass
  pub to : Bound MailPass
  pub before : Goes [] old from
  pub number_is : from.seat.me.number ≡ old.seat.me.number
  pub shape_is : from.seat.me.shape ≡ old.seat.me.shape
  pub stretch : Calm (FindsFull from.seat.me.number from.seat.me.shape.cells full.off_duty
      full.began full.ended) from to
  pub after : Goes [] to new

abbrev pub PostEnds : Bound MailPass → Bound MailPass → ℕ → Post → Type 0
PostEnds old new value (posts.Sent position) =
    SentTry old new (record { position = position; value = value })
PostEnds old new value (posts.Full full) = FullTry old new full
PostEnds old new value posts.Lost = LostTry old new
