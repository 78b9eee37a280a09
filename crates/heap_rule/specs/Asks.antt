-- What a seat needs to know for each kind of event, and which operation on which word it makes:
-- said of its view alone.
-- Source: this project's.
use Rattle.std.specs.Prelude.{ℕ, ◌≡◌, ◌<◌, ◌≤◌, ◌+◌, ◌==◌, ◌&&◌, ◌||◌, Bool, true, false, not}
use Rattle.std.specs.Prelude.{List, [], ◌∷◌, length}
use Rattle.std.specs.Prelude.{slice_index_or, is_some, None}
use Rattle.cell_words.specs.Modes.{next_status_of}
use Rattle.cell_words.specs.declared.controls.Control.{Control}
use Rattle.cell_words.specs.declared.fields.Field.{Field}
use Rattle.cell_words.specs.declared.fields.Field.TheVariants as field
use Rattle.cell_words.specs.declared.fields.Kind.{Kind}
use Rattle.cell_words.specs.declared.fields.Kind.TheVariants as kind
use Rattle.cell_words.specs.declared.presences.Status.TheVariants as status
use Rattle.core_machine.specs.Collector.{Collector}
use Rattle.core_machine.specs.Own.{pending_or_none}
use Rattle.core_machine.specs.Places.{all_marked, cell_at, marks_stand, names_rightly}
use Rattle.core_machine.specs.State.{State}
use Rattle.core_machine.specs.Table.{Word, index_of}
use Rattle.core_machine.specs.WordOperations.{Operation, Load, Store, Exchange, SetBits, KeepBits}
use Rattle.core_machine.specs.WordOperations.{left_by}
use Rattle.core_machine.specs.Words.{barrier_in, is_cell, lets_store, marks_some, requests}
use Rattle.core_machine.specs.Words.{same_status}
use Rattle.core_machine.specs.declared.events.Event.{Event}
use Rattle.core_machine.specs.declared.pending.Pending.{Pending}
use Rattle.heap_rule.specs.declared.known.Known.{Known}
use Rattle.heap_rule.specs.declared.known.Known.TheVariants as knows
use Rattle.heap_rule.specs.declared.view.View.{View}
use Rattle.heap_rule.specs.Facts.{IsTermKnown}
use Rattle.heap_rule.specs.Lore.{cells_in, known_at}
use Rattle.heap_rule.specs.Steps.{CollectorOwes, Owes}

-- an atomic operation tells the number that it found; a store the one that it stored
abbrev pub told_by : Operation → ℕ → ℕ
told_by Load number = number
told_by (Store new) number = new
told_by (Exchange old new) number = number
told_by (SetBits bits) number = number
told_by (KeepBits bits) number = number

-- What is known of a place.

abbrev pub IsRaw : Known → Type 0
IsRaw (knows.Raw fields) = Unit {0}
IsRaw _ = ⊥

-- the fields of a raw cell; nothing of any other
abbrev pub raw_fields : Known → List Field
raw_fields (knows.Raw fields) = fields
raw_fields _ = []

-- it is the anchor, or a box
abbrev pub IsBox : ℕ → Known → Type 0
IsBox cell (knows.Fresh fields) = Unit {0}
IsBox cell (knows.Boxed terms) = Unit {0}
IsBox cell _ = cell ≡ 0

-- what is known says that the cell is sealed
abbrev pub is_sealed : Known → Bool
is_sealed knows.Nothing = false
is_sealed (knows.Raw fields) = false
is_sealed (knows.Fresh fields) = true
is_sealed (knows.Record t) = true
is_sealed (knows.Boxed terms) = true

abbrev pub knows_sealed : List ℕ → List Known → ℕ → Bool
knows_sealed [] known c = false
knows_sealed (cell ∷ cells) [] c = false
knows_sealed (cell ∷ cells)
    (k ∷ known) c = ((cell == c) && is_sealed k) || knows_sealed cells known c

-- the value names no cell, or the anchor, or a cell that is known to be sealed
abbrev pub IsSealedValue : List ℕ → List Known → Field → Type 0
IsSealedValue cells known field.Null = Unit {0}
IsSealedValue cells known (field.Num n) = Unit {0}
IsSealedValue cells known (field.Cell c) = ((c == 0) || knows_sealed cells known c) ≡ true

-- the terms of a raw cell's fields are known, if it becomes a record
abbrev pub KnowsTerms : Kind → List ℕ → List Known → List Field → Type 0
KnowsTerms kind.Record cells known fields =
    (f : ℕ) → f < 5 → IsTermKnown cells known (slice_index_or fields f field.Null)
KnowsTerms kind.Boxed cells known fields = Unit {0}

-- a state that has what the collector knows, and nothing else
abbrev pub known_state : ℕ → ℕ → Control → Collector → State
known_state cells mutators control part = record {
  cells = cells;
  colours = [];
  rows = [];
  mutators = mutators;
  rooms = [];
  presences = [];
  owns = [];
  control = control;
  collector = part;
}

module _ {P : Type 0} where
  -- the seat may make this event by this operation on this word
  abbrev pub Asks : (ℕ → Bool) → View P → Event → Word → Operation → Type 0
  Asks fixed v e word operation =
      Owes fixed v e (index_of v.shape.mutators word) (left_by operation) (told_by operation)

  abbrev pub CollectorAsks : (ℕ → Bool) → View P → Event → Word → Operation → Type 0
  CollectorAsks fixed v e word operation =
      CollectorOwes fixed v e (index_of v.shape.mutators word) (left_by operation)
      (told_by operation)

  abbrev pub target : View P → ℕ → ℕ
  target v place = cell_at v.own.held place

  abbrev pub known_of : View P → ℕ → Known
  known_of v place = known_at v.known place

  -- the write that a Fetch began
  abbrev pub begun_of : View P → Pending
  begun_of v = pending_or_none v.own.pending

  -- What each kind needs.

  pub record MayLook (v : View P) : Type 0 where
    pub inside : v.presence.inside ≡ true
    pub settled : v.own.pending ≡ None

  pub record MayRead (v : View P) (place f : ℕ) : Type 0 where
    pub inside : v.presence.inside ≡ true
    pub there : place < length v.own.held
    pub payload : f ≤ 4
    pub room : length v.own.held < v.room

  pub record MayFetch (v : View P) (place f : ℕ) : Type 0 where
    pub inside : v.presence.inside ≡ true
    pub settled : v.own.pending ≡ None
    pub lets : lets_store v.presence.status v.own.mode ≡ true
    pub there : place < length v.own.held
    pub payload : f ≤ 4
    pub box : IsBox (target v place) (known_of v place)
    pub room : length v.own.held < v.room

  pub record MayStore (fixed : ℕ → Bool) (v : View P) (new : Field) : Type 0 where
    pub inside : v.presence.inside ≡ true
    pub begun : is_some v.own.pending ≡ true
    pub names : names_rightly v.own.held new ≡ true
    pub sealed : IsSealedValue (cells_in v.own.held) v.known new
    pub marks : marks_stand (barrier_in v.presence.status v.own.mode) v.own.held (begun_of v).found
        new ≡ true
    pub spares : fixed (begun_of v).f ≡ true → target v (begun_of v).place ≡ 0

  pub record MayMark (v : View P) (place : ℕ) : Type 0 where
    pub inside : v.presence.inside ≡ true
    pub there : place < length v.own.held
    pub barrier : marks_some (barrier_in v.presence.status v.own.mode) ≡ true

  pub record MayWrite (fixed : ℕ → Bool) (v : View P) (place f : ℕ) (old new : Field) : Type 0 where
    pub inside : v.presence.inside ≡ true
    pub settled : v.own.pending ≡ None
    pub mode : is_some v.own.mode ≡ true
    pub there : place < length v.own.held
    pub payload : f ≤ 4
    pub box : IsBox (target v place) (known_of v place)
    pub names_old : names_rightly v.own.held old ≡ true
    pub names_new : names_rightly v.own.held new ≡ true
    pub sealed : IsSealedValue (cells_in v.own.held) v.known new
    pub marks : marks_stand (barrier_in v.presence.status v.own.mode) v.own.held old new ≡ true
    pub spares : fixed f ≡ true → target v place ≡ 0

  pub record MayClaim (v : View P) (c : ℕ) : Type 0 where
    pub inside : v.presence.inside ≡ true
    pub settled : v.own.pending ≡ None
    pub mode : is_some v.own.mode ≡ true
    pub cell : c < v.shape.cells
    pub room : length v.own.held < v.room

  pub record MayFill (v : View P) (place f : ℕ) (value : Field) : Type 0 where
    pub inside : v.presence.inside ≡ true
    pub there : place < length v.own.held
    pub raw : IsRaw (known_of v place)
    pub payload : f ≤ 4
    pub names : names_rightly v.own.held value ≡ true
    pub sealed : IsSealedValue (cells_in v.own.held) v.known value
    pub clear : is_cell (slice_index_or (raw_fields (known_of v place)) f field.Null) ≡ false

  pub record MaySeal (v : View P) (place : ℕ) (of : Kind) : Type 0 where
    pub inside : v.presence.inside ≡ true
    pub there : place < length v.own.held
    pub raw : IsRaw (known_of v place)
    pub terms : KnowsTerms of (cells_in v.own.held) v.known (raw_fields (known_of v place))

  pub record MayAnswer (v : View P) : Type 0 where
    pub inside : v.presence.inside ≡ true
    pub settled : v.own.pending ≡ None
    pub requested : requests v.own.mode (next_status_of v.presence.status) ≡ true
    pub third : (not
        (same_status (next_status_of v.presence.status) status.Async) || all_marked v.own.held)
        ≡ true

  -- and nothing is pending, which the layer above has of its seat without more
  pub record MayKeep (v : View P) (n from copies : ℕ) : Type 0 where
    pub inside : v.presence.inside ≡ true
    pub some : 1 ≤ n
    pub kept : n ≤ length v.own.held
    pub copied : from + copies ≤ length v.own.held
    pub room : n + copies ≤ v.room

  pub record MayComeIn (v : View P) : Type 0 where
    pub out : v.presence.inside ≡ false
    pub not_over : v.presence.over ≡ false

  -- of the collector's seat
  abbrev pub collector_state : View P → State
  collector_state v = known_state v.shape.cells v.shape.mutators v.control v.part
