-- What a mutator of these tests knows between two rounds.
-- Source: this project's.
use Rattle.std.specs.Prelude.{ℕ, ◌≡◌, ◌≤◌, true, false, List, [], ◌∷◌, length, Option, None}
use Rattle.cell_tests.specs.declared.counter.Added.{Added}
use Rattle.cell_words.specs.declared.controls.Control.{Control}
use Rattle.cell_words.specs.declared.presences.Presence.{Presence}
use Rattle.cell_words.specs.declared.presences.Status.{Status}
use Rattle.core_machine.specs.Own.{Own}
use Rattle.core_machine.specs.declared.places.Held.{Held}
use Rattle.core_machine.specs.Places.{found_at}
use Rattle.heap_rule.specs.declared.known.Known.{Known}
use Rattle.heap_rule.specs.declared.view.View.{View}
use Rattle.heap_table.specs.Seats.{HeapId, IsSeatOf, SeatView}

-- a seat of the heap with these parts, the others as in the base
abbrev pub seat_with : HeapId → View Added → Own → Presence → List Known → ℕ → SeatView Added
seat_with heap base own presence known sum = record {
  table = heap.table;
  me = record base {
    own = own;
    presence = presence;
    known = known;
    pass = record { sum = sum };
  };
}

-- it has begun no write
abbrev pub own_with : List Held → Option Control → ℕ → Own
own_with held mode claims =
    record { held = held; mode = mode; pending = None; claims = claims }

abbrev pub out_with : Status → Presence
out_with status = record { status = status; inside = false; over = false }

abbrev pub in_with : Status → Presence
in_with status = record { status = status; inside = true; over = false }

-- the numbers of a mutator's view
pub record HasNumbers (heap : HeapId) (base : View Added) : Type 0 where
  pub shape_is : base.shape ≡ heap.shape
  pub some_room : 2 ≤ base.room

-- it is out and was never over
pub record IsOut (heap : HeapId) (sum : ℕ) (seat : SeatView Added) : Type 0 where
  pub base : View Added
  pub mode : Option Control
  pub claims : ℕ
  pub status : Status
  pub known : List Known
  pub numbers : HasNumbers heap base
  pub is : seat ≡ seat_with heap base (own_with [] mode claims) (out_with status) known sum

-- it is in, and holds these, with this mode; what it knows of all but the first
pub record IsAt (heap : HeapId) (sum : ℕ) (held : List Held) (mode : Option Control)
    (more : List Known) (seat : SeatView Added) : Type 0 where
  pub base : View Added
  pub claims : ℕ
  pub status : Status
  pub first : Known
  pub numbers : HasNumbers heap base
  pub is : seat
      ≡ seat_with heap base (own_with held mode claims) (in_with status) (first ∷ more) sum

-- it is in, and holds the anchor alone
abbrev pub IsIn : HeapId → ℕ → SeatView Added → Type 0
IsIn heap sum seat =
    (mode : Option Control) × IsAt heap sum (found_at 0 ∷ []) mode [] seat

-- it is over, so its seat can be joined
pub record IsDone (heap : HeapId) (sum : ℕ) (seat : SeatView Added) : Type 0 where
  pub table_is : seat.table ≡ heap.table
  pub shape_is : seat.me.shape ≡ heap.shape
  pub over : seat.me.presence.over ≡ true
  pub pass_is : seat.me.pass ≡ record { sum = sum }

-- a heap with the counter was opened, and the seats of its two mutators are split off
pub record IsOpened (heap : HeapId) (collector first second : SeatView Added) : Type 0 where
  pub collector_is : IsSeatOf heap collector
  pub two_mutators : heap.shape.mutators ≡ 2
  pub two_places : length collector.me.places ≡ 2
  pub first_out : IsOut heap 0 first
  pub second_out : IsOut heap 0 second
  pub first_is : first.me.number ≡ 0
  pub second_is : second.me.number ≡ 1
