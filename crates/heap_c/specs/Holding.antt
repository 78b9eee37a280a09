-- What a mutator's handle owns between two calls.
-- Source: this project's.
use Rattle.std.specs.Prelude.{ℕ, ◌≡◌, ◌≤◌, ◌⊎◌, Bool, true, false, List}
use Rattle.heap_rule.specs.declared.known.Known.{Known}
use Rattle.heap_table.specs.Seats.{HeapId, SeatView}
use Rattle.local_records.specs.Local.{IsLocal, Local}
use Rattle.local_references.specs.Roots.{slot_at}
use Rattle.local_references.specs.declared.roots.Root.{Root}
use Rattle.local_references.specs.declared.roots.Root.TheVariants as root
use Rattle.minor_heap.specs.Spans.{NoneMarked}
use Rattle.mutator_seat.specs.Bound.{Bound, IsBound, bound}
use Rattle.sorted_boxes.specs.Holding.{HoldsAs}
use Rattle.sorted_boxes.specs.Sorts.{Serves, SortList}
use Rattle.sorted_rule.specs.declared.sorting.Sorting.{Sorting}
use Rattle.heap_c.specs.Turns.{NamesNone, NamesPlace}
use Rattle.heap_c.specs.declared.turns.Turns.{Turns}

-- a mutator of a heap, and what is held at each of its places
pub record Held : Type 0 where
  pub bound : Bound Sorting
  pub sorts : SortList

abbrev pub held_by : HeapId → SeatView Sorting → SortList → Held
held_by heap seat sorts = record { bound = bound heap seat; sorts = sorts }

-- The seat is one of this heap, of whose boxes at least one field names boxes; who is in holds at
-- each place what the list says.
pub record IsMine (heap : HeapId) (seat : SeatView Sorting) (sorts : SortList) : Type 0 where
  pub bound : IsBound heap seat
  pub some : 1 ≤ sorts.boxes
  pub serves : Serves sorts seat.me
  pub held : seat.me.presence.inside ≡ true → HoldsAs sorts seat.me

-- and its private records
pub record Owned : Type 0 where
  pub held : Held
  pub local : Local

abbrev pub owned_by : HeapId → SeatView Sorting → SortList → Local → Owned
owned_by heap seat sorts local = record { held = held_by heap seat sorts; local = local }

-- and below which place none has moved: what a handle is for C
pub record Mutator : Type 0 where
  pub owned : Owned
  pub steady : ℕ

-- how it numbers places
abbrev pub turns_of : Mutator → Turns
turns_of m = record { turn = m.owned.local.turn; steady = m.steady }

-- private records are as they were, and the same places are steady
abbrev pub StillLocal : (old new : Mutator) → Type 0
StillLocal old new = (new.owned.local ≡ old.owned.local) × (new.steady ≡ old.steady)

-- A call that is given a place by its number does this with the place; or it is refused, since the
-- number names none.
abbrev pub AtPlace : (old new : Mutator) → (n : ℕ) → (IsRefused : Type 0) → (ℕ → Type 0) → Type 0
AtPlace old new n IsRefused Does =
    ((place : ℕ) × (NamesPlace (turns_of old) n place × Does place))
    ⊎ (NamesNone (turns_of old) n × (IsRefused × (new ≡ old)))

-- no root is the anchor's place
abbrev pub NoAnchor : List Root → Type 0
NoAnchor roots = (k : ℕ) → slot_at roots k ≡ root.Shared 0 → ⊥

-- Where it is not noted that private records may have copies, none has one.
abbrev pub NotesCopies : (copied : Bool) → Local → Type 0
NotesCopies copied local = copied ≡ false → NoneMarked local.copied

-- Besides, the private records are in force by what it knows of its places; of who is out they name
-- none.
pub record IsOwned (heap : HeapId) (seat : SeatView Sorting) (sorts : SortList) (local : Local)
    : Type 0 where
  pub mine : IsMine heap seat sorts
  pub inside : seat.me.presence.inside ≡ true → IsLocal local seat.me.known
  pub outside : seat.me.presence.inside ≡ false → (known : List Known) → IsLocal local known
  pub apart : NoAnchor local.roots
