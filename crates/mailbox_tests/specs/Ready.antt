-- A mutator that may send and take.
-- Source: this project's.
use Rattle.std.specs.Prelude.{ℕ, ◌≡◌, ◌≤◌, false, true, [], ◌∷◌, length}
use Rattle.heap_table.specs.Seats.{HeapId, IsSeatOf, SeatView}
use Rattle.mail_rule.specs.declared.mail_pass.MailPass.{MailPass}
use Rattle.mutator_seat.specs.Bound.{Bound, held_cells}

-- it was just split off
pub record IsNew (heap : HeapId) (number : ℕ) (seat : SeatView MailPass) : Type 0 where
  pub seat_is : IsSeatOf heap seat
  pub number_is : seat.me.number ≡ number
  pub room : seat.me.room ≡ 16
  pub out : seat.me.presence.inside ≡ false
  pub not_over : seat.me.presence.over ≡ false
  pub nothing_sent : seat.me.pass.sends ≡ []

-- it is in, holds only the anchor, and has sent at most so many items
pub record IsReady (number sends : ℕ) (m : Bound MailPass) : Type 0 where
  pub inside : m.seat.me.presence.inside ≡ true
  pub held : held_cells m ≡ 0 ∷ []
  pub room : m.seat.me.room ≡ 16
  pub number_is : m.seat.me.number ≡ number
  pub few : length m.seat.me.pass.sends ≤ sends
