-- A claim: the cell that it got, or why the heap is full.
-- Source: this project's.
use Rattle.std.specs.Prelude.{ℕ, ◌≡◌, Bool, true, false, not, List, [], ◌∷◌, ◌++◌, length}
use Rattle.std.specs.Prelude.{is_some}
use Rattle.std.specs.List.{list_all}
use Rattle.cell_words.specs.declared.colours.Colour.{Colour}
use Rattle.cell_words.specs.declared.colours.Colour.TheVariants as colour
use Rattle.cell_words.specs.declared.controls.Control.{Control}
use Rattle.cell_words.specs.declared.presences.Status.{Status}
use Rattle.core_machine.specs.declared.events.Event.{Event}
use Rattle.core_machine.specs.declared.events.Event.TheVariants as event
use Rattle.core_machine.specs.declared.events.Found.{Found}
use Rattle.core_machine.specs.declared.events.Found.TheVariants as finds
use Rattle.core_machine.specs.declared.events.Taken.{Taken}
use Rattle.heap_rule.specs.declared.known.Known.TheVariants as knows
use Rattle.heap_rule.specs.Apart.{IsNewTo}
use Rattle.heap_rule.specs.Lore.{five_nulls}
use Rattle.heap_rule.specs.Rule.{took}
use Rattle.trails.specs.Claims.{AllUsed, decides, is_used, look_of}
use Rattle.mutator_seat.specs.declared.full.HeapFull.{HeapFull}
use Rattle.mutator_seat.specs.Bound.{Bound, held_cells, takes}
use Rattle.mutator_seat.specs.Stretches.{Calm, LookAndAnswer}

-- whatever the events were
abbrev pub anything : List Taken → Type 0
anything events = Unit {0}

-- What a claim does until it gets its cell: it looks, marks, answers, and tries cells that it finds
-- used.

abbrev pub is_missed : Found → Bool
is_missed (finds.Colour found) = is_used found
is_missed _ = false

abbrev pub seeks : Event → Found → Bool
seeks (event.Look i) found = true
seeks (event.Mark i place) found = true
seeks (event.Answer i) found = true
seeks (event.Claim i cell) found = is_missed found
seeks _ found = false

-- each of the events is such a one, and none of another kind
abbrev pub Seeking : List Taken → Type 0
Seeking events = list_all (λ (t : Taken). seeks t.event t.found) events ≡ true

-- a handshake is answered where one is asked for, and after that comes this look
pub record Ends (number : ℕ) (own : Status) (control : Control) (events : List Taken) : Type 0 where
  pub before : List Taken
  pub answered : Bool
  pub handshake : LookAndAnswer number own answered before
  pub split : events ≡ before ++ look_of number control ∷ []

-- A look decides, where so many cycles were begun before, and after it each cell was found used.
pub record FullBehind (number cells : ℕ) (begun : ℕ) (full : HeapFull) (events : List Taken)
    : Type 0 where
  pub between : List Taken
  pub control : Control
  pub tries : List Taken
  pub split : events ≡ between ++ look_of number control ∷ tries
  pub is : full ≡ record { off_duty = not control.duty; began = begun; ended = control.cycles }
  pub decided : decides begun control ≡ true
  pub all_used : AllUsed 0 cells tries

module _ {P : Type 0} where
  -- its last event was a look, or one that leaves what a look found
  abbrev pub HasMode : Bound P → Type 0
  HasMode m = is_some m.seat.me.own.mode ≡ true

  -- Behind events that sought a cell and kept all, a blue one was claimed: it stands at this place,
  -- the next one of the held list, and is known as a raw cell with null fields.
  pub record Claimed (old : Bound P) (place : ℕ) (new : Bound P) : Type 0 where
    pub cell : ℕ
    -- as it was at the claim
    pub at : Bound P
    pub calm : Calm Seeking old at
    pub told : new ≡ takes at (event.Claim at.seat.me.number cell) (finds.Colour colour.Blue)
    pub place_is : place ≡ length old.seat.me.own.held
    -- it stood at no place
    pub is_new : IsNewTo (held_cells old) old.seat.me.known cell
    pub held : held_cells new ≡ held_cells old ++ cell ∷ []
    pub known : new.seat.me.known ≡ old.seat.me.known ++ knows.Raw five_nulls ∷ []

  -- one claim of this cell, whatever it found
  abbrev pub Tried : ℕ → Bound P → Bound P → Type 0
  Tried cell old new =
      (found : Colour)
      × (new ≡ takes old (event.Claim old.seat.me.number cell) (finds.Colour found))

  -- a look, such a claim, and what followed
  pub record TriedFirst (cell : ℕ) (old new : Bound P) : Type 0 where
    pub control : Control
    pub found : Colour
    pub rest : List Taken
    pub trail : new.seat.me.trail ≡ old.seat.me.trail ++ look_of old.seat.me.number control
        ∷ took (event.Claim old.seat.me.number cell) (finds.Colour found) ∷ rest
