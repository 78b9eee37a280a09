-- A store in a field of a box, whatever the field holds: what it needs, and what it tells.
--
-- Where a store may not be begun, a read and an exchange of what the read found stand in its place:
-- in sync2, by a look that found the stage Sync2.
-- Source: this project's.
use Rattle.std.specs.Prelude.{ℕ, ◌≡◌, ◌<◌, ◌≤◌, Bool, true, false, List, [], ◌∷◌, length, Some}
use Rattle.cell_words.specs.Modes.{barrier_of}
use Rattle.cell_words.specs.declared.controls.Control.{Control}
use Rattle.cell_words.specs.declared.fields.Field.{Field}
use Rattle.cell_words.specs.declared.write_barrier.Barrier.{Barrier}
use Rattle.core_machine.specs.declared.events.Event.{Event}
use Rattle.core_machine.specs.declared.events.Event.TheVariants as event
use Rattle.core_machine.specs.declared.events.Found.{Found}
use Rattle.core_machine.specs.declared.events.Found.TheVariants as finds
use Rattle.core_machine.specs.Words.{lets_store}
use Rattle.heap_rule.specs.declared.known.Learned.{Learned}
use Rattle.heap_rule.specs.declared.view.View.{View}
use Rattle.heap_rule.specs.Asks.{IsBox, IsSealedValue, known_of, target}
use Rattle.heap_rule.specs.Boxes.{Map}
use Rattle.heap_rule.specs.Lore.{cells_in, learned}
use Rattle.heap_rule.specs.Steps.{Picks, same_pass}
use Rattle.mutator_events.specs.declared.values.Value.{Value}
use Rattle.mutator_events.specs.Events.{AtEvent}
use Rattle.mutator_events.specs.Values.{field_at, value_found}
use Rattle.mutator_seat.specs.Bound.{Bound, held_cells, takes}
use Rattle.mutator_seat.specs.Stretches.{Calm, Kept, MarksOf, SamePlaces}
use Rattle.mutator_seat.specs.Writes.{IsNamed, wanted_by}
use Rattle.trails.specs.Claims.{look_of}

module _ {P : Type 0} where
  -- what an update needs of place, field and new value, and room for the cell that is found there
  pub record MayOverwrite (fixed : ℕ → Bool) (v : View P) (place f : ℕ) (new : Value)
      : Type 0 where
    pub inside : v.presence.inside ≡ true
    pub there : place < length v.own.held
    pub payload : f ≤ 4
    pub box : IsBox (target v place) (known_of v place)
    pub new_named : IsNamed v.own.held new
    pub sealed : IsSealedValue (cells_in v.own.held) v.known (field_at v.own.held new)
    pub spares : fixed f ≡ true → target v place ≡ 0
    pub room : length v.own.held < v.room

  -- The events, by the mutator as it is at them.

  abbrev pub fetch_of : Bound P → ℕ → ℕ → Event
  fetch_of m place f = event.Fetch m.seat.me.number place f

  abbrev pub read_of : Bound P → ℕ → ℕ → Event
  read_of m place f = event.Read m.seat.me.number place f

  abbrev pub store_of : Value → Bound P → Event
  store_of new m = event.Store m.seat.me.number (field_at m.seat.me.own.held new)

  -- the exchange of what was seen
  abbrev pub exchange_of : ℕ → ℕ → Field → Value → Bound P → Event
  exchange_of place f seen new m =
      event.Write m.seat.me.number place f seen (field_at m.seat.me.own.held new)

  -- one event, with the state and the client's rule as they stood at it
  pub record Stepped (holds : Map → List P → Type 0) (fixed : ℕ → Bool) (e : Event)
      (next : Learned → Found → P → P) (found : Found) (old new : Bound P) : Type 0 where
    pub event : AtEvent holds fixed old.seat.me e next found new.seat.me
    pub heap : new.heap ≡ old.heap
    pub table : new.seat.table ≡ old.seat.table

  -- what it told
  abbrev pub told_by : {holds : Map → List P → Type 0} {fixed : ℕ → Bool} {e : Event}
      {next : Learned → Found → P → P} {found : Found} {old new : Bound P}
      → Stepped holds fixed e next found old new → Learned
  told_by {e = e} step = learned step.event.core step.event.lore e

  -- An event loaded the field and found this, what the barrier asks for was marked, and an event
  -- wrote the field.
  pub record Replaced (holds : Map → List P → Type 0) (fixed : ℕ → Bool) (wanted : Barrier)
      (loads : Event) (reads : Learned → Found → P → P) (seen : Field) (writes : Bound P → Event)
      (next : Learned → Found → P → P) (found : Found) (new : Value)
      (old after : Bound P) : Type 0 where
    pub loaded : Bound P
    pub load : Stepped holds fixed loads reads (finds.Field seen) old loaded
    -- as it was at the write
    pub at : Bound P
    pub marks : Calm (MarksOf old.seat.me.number
        (wanted_by wanted (value_found (length old.seat.me.own.held) seen) new)) loaded at
    pub presence : at.seat.me.presence ≡ loaded.seat.me.presence
    pub write : Stepped holds fixed (writes at) next found at after

  -- the places that were held before are kept after it
  pub record Rewritten (holds : Map → List P → Type 0) (fixed : ℕ → Bool) (wanted : Barrier)
      (loads : Event) (reads : Learned → Found → P → P) (seen : Field) (writes : Bound P → Event)
      (next : Learned → Found → P → P) (found : Found) (new : Value)
      (old after : Bound P) : Type 0 where
    pub written : Bound P
    pub replaced : Replaced holds fixed wanted loads reads seen writes next found new old written
    pub told : after ≡ takes written
        (event.Keep written.seat.me.number (length old.seat.me.own.held) 0 0)
        (finds.Presence written.seat.me.presence)
    pub heap : after.heap ≡ old.heap
    pub table : after.seat.table ≡ old.seat.table
    pub held : held_cells after ≡ held_cells old
    pub places : SamePlaces old after
    -- what is picked at the load, and of that what is picked at the write
    pub pass : after.seat.me.pass ≡ next (told_by replaced.write) found
        (reads (told_by replaced.load) (finds.Field seen) old.seat.me.pass)

  -- one look that found this
  abbrev pub Looks : Control → Bound P → Bound P → Type 0
  Looks control m looked = Calm (λ es. es ≡ look_of m.seat.me.number control ∷ []) m looked

  -- One look that lets a store begin, the fetch, the marks of the barrier, the store; and the
  -- places from before are kept.
  pub record Overwritten (holds : Map → List P → Type 0) (fixed : ℕ → Bool)
      (next : Learned → Found → P → P) (m : Bound P) (place f : ℕ) (new : Value)
      (after : Bound P) : Type 0 where
    pub control : Control
    pub lets : lets_store m.seat.me.presence.status (Some control) ≡ true
    pub looked : Bound P
    pub look : Looks control m looked
    pub presence : looked.seat.me.presence ≡ m.seat.me.presence
    pub seen : Field
    pub rewritten : Rewritten holds fixed (barrier_of m.seat.me.presence.status control)
        (fetch_of looked place f) same_pass seen (store_of new) next finds.Stored new looked after
    pub heap : after.heap ≡ m.heap
    pub table : after.seat.table ≡ m.seat.table
    pub held : held_cells after ≡ held_cells m
    pub places : SamePlaces m after
    -- what is picked of the pass before the call, at the store
    pub pass : after.seat.me.pass
        ≡ next (told_by rewritten.replaced.write) finds.Stored m.seat.me.pass

  -- One look that does not, a read that found this, the marks of the barrier, and the exchange of
  -- it for the new value, which found that; and the places from before are kept.
  pub record Exchanged (holds : Map → List P → Type 0) (fixed : ℕ → Bool)
      (reads next : Learned → Found → P → P) (m : Bound P) (place f : ℕ) (new : Value)
      (seen found : Field) (after : Bound P) : Type 0 where
    pub control : Control
    pub lets : lets_store m.seat.me.presence.status (Some control) ≡ false
    pub looked : Bound P
    pub look : Looks control m looked
    pub presence : looked.seat.me.presence ≡ m.seat.me.presence
    pub rewritten : Rewritten holds fixed (barrier_of m.seat.me.presence.status control)
        (read_of looked place f) reads seen (exchange_of place f seen new) next (finds.Field found)
        new looked after
    pub heap : after.heap ≡ m.heap
    pub table : after.seat.table ≡ m.seat.table
    pub held : held_cells after ≡ held_cells m
    pub places : SamePlaces m after
    -- what is picked of the pass before the call, at the read and then at the exchange
    pub pass : after.seat.me.pass
        ≡ next (told_by rewritten.replaced.write) (finds.Field found)
        (reads (told_by rewritten.replaced.load) (finds.Field seen) m.seat.me.pass)

  -- The pass that is picked stands at the store, whatever the fetch finds and whatever is marked.
  abbrev pub PicksStore : (Map → List P → Type 0) → (ℕ → Bool) → (Learned → Found → P → P)
      → Bound P → ℕ → ℕ → Value → Type 0
  PicksStore holds fixed next looked place f new =
      (fetched at : Bound P) (seen : Field)
      → Stepped holds fixed (fetch_of looked place f) same_pass (finds.Field seen) looked fetched
      → Kept fetched at → at.seat.me.presence ≡ fetched.seat.me.presence
      → Picks holds fixed next at.seat.me (store_of new at)

  -- and at the exchange, whatever the read finds
  abbrev pub PicksExchange : (Map → List P → Type 0) → (ℕ → Bool) → (Learned → Found → P → P)
      → (Learned → Found → P → P) → Bound P → ℕ → ℕ → Value → Type 0
  PicksExchange holds fixed reads next looked place f new =
      (read at : Bound P) (seen : Field)
      → Stepped holds fixed (read_of looked place f) reads (finds.Field seen) looked read
      → Kept read at → at.seat.me.presence ≡ read.seat.me.presence
      → Picks holds fixed next at.seat.me (exchange_of place f seen new at)

  -- The passes that are picked stand at the store, or at the read and the exchange, whatever the
  -- look finds.
  pub record PicksOverwrite (holds : Map → List P → Type 0) (fixed : ℕ → Bool)
      (reads next : Learned → Found → P → P) (m : Bound P) (place f : ℕ) (new : Value)
      : Type 0 where
    pub store : (looked : Bound P) → Kept m looked
        → looked.seat.me.presence ≡ m.seat.me.presence
        → PicksStore holds fixed next looked place f new
    pub read : (looked : Bound P) → Kept m looked
        → looked.seat.me.presence ≡ m.seat.me.presence
        → Picks holds fixed reads looked.seat.me (read_of looked place f)
    pub exchange : (looked : Bound P) → Kept m looked
        → looked.seat.me.presence ≡ m.seat.me.presence
        → PicksExchange holds fixed reads next looked place f new
