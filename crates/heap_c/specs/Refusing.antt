-- Why a call does nothing: what each code says of the mutator that was called, and of what it was
-- given. The words are those of heap.h.
-- Source: this project's.
use Rattle.std.specs.Prelude.{ℕ, ◌≡◌, ◌<◌, ◌≤◌, ◌+◌, ◌^◌, ◌⊎◌, true, false, List, length, slice_get}
use Rattle.std.specs.Prelude.{MatchOption}
use Rattle.cell_making.specs.Makes.{value_at}
use Rattle.mutator_events.specs.declared.values.Value.{Value}
use Rattle.mutator_events.specs.declared.values.Value.TheVariants as values
use Rattle.sorted_boxes.specs.Sorts.{holds_record, is_fit}
use Rattle.sorted_rule.specs.Sorts.{sort_of}
use Rattle.heap_c.specs.declared.codes.Code.{Code}
use Rattle.heap_c.specs.declared.codes.Code.TheVariants as code
use Rattle.heap_c.specs.declared.values.HeapVal.{HeapVal}
use Rattle.heap_c.specs.declared.turns.Turns.{Turns}
use Rattle.heap_c.specs.Holding.{Held}
use Rattle.heap_c.specs.Turns.{IsNumber, NamesPlace}

abbrev pub held_of : Held → ℕ
held_of m = length m.bound.seat.me.own.held

abbrev pub IsOut : Held → Type 0
IsOut m = m.bound.seat.me.presence.inside ≡ false

-- no field is there
abbrev pub NoField : ℕ → Type 0
NoField f = 5 ≤ f

-- fewer places are free
abbrev pub NoRoomFor : Held → ℕ → Type 0
NoRoomFor m places = m.bound.seat.me.room < held_of m + places

-- no box is there
abbrev pub NoBox : Held → ℕ → Type 0
NoBox m place = (held_of m ≤ place) ⊎ (holds_record m.sorts place ≡ true)

module _ (t : Turns) where
  -- these bytes of C's are this value, with so many places held
  abbrev pub Means : ℕ → HeapVal → Value → Type 0
  Means held val values.Null = val.tag ≡ 0
  Means held val (values.Num n) = (val.tag ≡ 1) × ((val.n ≡ n) × (n < 2 ^ 62))
  Means held val (values.Held place) =
      (val.tag ≡ 2) × (NamesPlace t val.n place × ((1 ≤ place) × (place < held)))

  -- the bytes of a value that is handed out
  abbrev pub IsVal : HeapVal → Value → Type 0
  IsVal val values.Null = (val.tag ≡ 0) × (val.n ≡ 0)
  IsVal val (values.Num n) = (val.tag ≡ 1) × (val.n ≡ n)
  IsVal val (values.Held place) = (val.tag ≡ 2) × IsNumber t val.n place

  -- the number names none of these places but the anchor's
  abbrev pub NoHeld : ℕ → (n : ℕ) → Type 0
  NoHeld held n = (place : ℕ) → NamesPlace t n place → (place < 1) ⊎ (held ≤ place)

  -- they are no value
  abbrev pub NoValue : ℕ → HeapVal → Type 0
  NoValue held val =
      (3 ≤ val.tag) ⊎ (((val.tag ≡ 1) × (2 ^ 62 ≤ val.n))
      ⊎ ((val.tag ≡ 2) × NoHeld held val.n))

  -- the same of the value at an index, which is null past the end
  abbrev pub MeansAt : ℕ → List HeapVal → ℕ → Value → Type 0
  MeansAt held vals i value =
      MatchOption (slice_get vals i) (value ≡ values.Null) (λ val. Means held val value)

  abbrev pub NoValueAt : ℕ → List HeapVal → ℕ → Type 0
  NoValueAt held vals i = MatchOption (slice_get vals i) ⊥ (λ val. NoValue held val)

  -- five values, of which these are the first
  abbrev pub AreMeant : ℕ → List HeapVal → List Value → Type 0
  AreMeant held vals given = (i : ℕ) → i < 5 → MeansAt held vals i (value_at given i)

  -- a value that may not stand in the field
  abbrev pub IsUnfit : Held → (place f : ℕ) → HeapVal → Type 0
  IsUnfit m place f val = (value : Value) × (Means (held_of m) val value
      × (is_fit m.sorts (sort_of m.sorts.boxes place f) value ≡ false))

  -- values of which one may not stand in its field of a new box
  abbrev pub AreUnfit : Held → List HeapVal → Type 0
  AreUnfit m vals = (given : List Value) × (AreMeant (held_of m) vals given
      × ((i : ℕ) × ((i < 5)
      × (is_fit m.sorts (sort_of m.sorts.boxes 1 i) (value_at given i) ≡ false))))

-- The first n places and then `count` from a place on are no places that may be kept.
abbrev pub NoneToKeep : ℕ → (n place count : ℕ) → Type 0
NoneToKeep held n place count =
    (n < 1) ⊎ ((held < n) ⊎ ((1 ≤ count) × ((place < 1) ⊎ (held < place + count))))

module _ (m : Held) where
  abbrev pub NotKept : (n place count : ℕ) → Code → Type 0
  NotKept n place count code.NotIn = IsOut m
  NotKept n place count code.BadPlace = NoneToKeep (held_of m) n place count
  NotKept n place count code.NoRoom = m.bound.seat.me.room < n + count
  NotKept n place count _ = ⊥

  abbrev pub NotRead : (place f : ℕ) → Code → Type 0
  NotRead place f code.NotIn = IsOut m
  NotRead place f code.BadPlace = held_of m ≤ place
  NotRead place f code.BadField = NoField f
  NotRead place f code.NoRoom = NoRoomFor m 1
  NotRead place f _ = ⊥

  abbrev pub NotReadAll : (place five : ℕ) → Code → Type 0
  NotReadAll place five code.NotIn = IsOut m
  NotReadAll place five code.BadPlace = (place < 1) ⊎ (held_of m ≤ place)
  NotReadAll place five code.BadSize = ¬ (five ≡ 5)
  NotReadAll place five code.NoRoom = NoRoomFor m 5
  NotReadAll place five _ = ⊥

  abbrev pub NotCompared : (one other : ℕ) → Code → Type 0
  NotCompared one other code.NotIn = IsOut m
  NotCompared one other code.BadPlace = (held_of m ≤ one) ⊎ (held_of m ≤ other)
  NotCompared one other _ = ⊥

module _ (t : Turns) (m : Held) where
  -- but for `Moved`
  abbrev pub NotWritten : (place f : ℕ) → HeapVal → Code → Type 0
  NotWritten place f val code.NotIn = IsOut m
  NotWritten place f val code.BadPlace = NoBox m place
  NotWritten place f val code.BadField = NoField f
  NotWritten place f val code.NoRoom = NoRoomFor m 1
  NotWritten place f val code.BadValue = NoValue t (held_of m) val ⊎ IsUnfit t m place f val
  NotWritten place f val _ = ⊥

  -- but for `Moved`
  abbrev pub NotSwapped : (place f : ℕ) → (was now : HeapVal) → Code → Type 0
  NotSwapped place f was now code.NotIn = IsOut m
  NotSwapped place f was now code.BadPlace = NoBox m place
  NotSwapped place f was now code.BadField = NoField f
  NotSwapped place f was now code.BadValue =
      NoValue t (held_of m) was ⊎ (NoValue t (held_of m) now ⊎ IsUnfit t m place f now)
  NotSwapped place f was now _ = ⊥

  -- but for `Wait` and `Full`
  abbrev pub NotMade : List HeapVal → Code → Type 0
  NotMade vals code.NotIn = IsOut m
  NotMade vals code.BadSize = 5 < length vals
  NotMade vals code.NoRoom = NoRoomFor m 1
  NotMade vals code.BadValue = ((i : ℕ) × NoValueAt t (held_of m) vals i) ⊎ AreUnfit t m vals
  NotMade vals _ = ⊥
