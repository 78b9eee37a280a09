-- What a mutator's calls answer, code by code, and what they leave of the mutator. Where a test
-- refuses a call the mutator is as it was.
-- Source: this project's.
use Rattle.std.specs.Prelude.{ℕ, ◌≡◌, ◌<◌, ◌≤◌, ◌+◌, ◌==◌, ◌⊎◌, false, true, Bool}
use Rattle.std.specs.Prelude.{List, Ok, Err}
use Rattle.std.specs.List.{CopiedTo, SameBelow}
use Rattle.std.specs.declared.result.Result.{Result}
use Rattle.cell_words.specs.declared.fields.Field.{Field}
use Rattle.core_machine.specs.Words.{same_field}
use Rattle.heap_rule.specs.Asks.{target}
use Rattle.heap_rule.specs.NoRule.{no_field_is_fixed}
use Rattle.heap_rule.specs.Steps.{same_pass}
use Rattle.mutator_events.specs.declared.values.Value.{Value}
use Rattle.mutator_events.specs.Values.{field_at}
use Rattle.mutator_seat.specs.Bound.{Bound, held_cells}
use Rattle.mutator_seat.specs.Stretches.{Calm, LookAndAnswer}
use Rattle.mutator_seat.specs.Writes.{Updated}
use Rattle.sorted_boxes.specs.Calls.{AllRefused, AreOfTheirSort, Gave, GaveAll, KeepsPlaces, Made}
use Rattle.sorted_boxes.specs.Calls.{Narrows, Wrote}
use Rattle.sorted_boxes.specs.Holding.{HoldsAs, HoldsRaw}
use Rattle.sorted_boxes.specs.Sorts.{AreFit, IsOfTheSort, holds_record, is_fit, sort_found}
use Rattle.sorted_rule.specs.Sorted.{HoldsSorted}
use Rattle.sorted_rule.specs.Sorts.{sort_of}
use Rattle.sorted_rule.specs.declared.sorting.Sorting.{Sorting}
use Rattle.heap_c.specs.declared.codes.Code.{Code}
use Rattle.heap_c.specs.declared.codes.Code.TheVariants as code
use Rattle.heap_c.specs.declared.turns.Turns.{Turns}
use Rattle.heap_c.specs.declared.values.HeapVal.{HeapVal}
use Rattle.heap_c.specs.Claiming.{HoldsOneMore}
use Rattle.heap_c.specs.Holding.{Held}
use Rattle.heap_c.specs.Refusing.{AreMeant, IsOut, Means, NotCompared, NotKept}
use Rattle.heap_c.specs.Refusing.{NotMade, NotRead, NotReadAll, NotSwapped, NotWritten, held_of}

abbrev pub IsIn : Held → Type 0
IsIn m = m.bound.seat.me.presence.inside ≡ true

abbrev pub HasRoom : Held → ℕ → Type 0
HasRoom m places = held_of m + places ≤ m.bound.seat.me.room

-- it is in, and there are such a place and such a field
abbrev pub MayReach : Held → (place f : ℕ) → Type 0
MayReach m place f = IsIn m × ((place < held_of m) × (f ≤ 4))

-- and the place holds a box, in whose field the value may stand
abbrev pub MayWrite : Held → (place f : ℕ) → Value → Type 0
MayWrite m place f value = MayReach m place f × ((holds_record m.sorts place ≡ false)
    × (is_fit m.sorts (sort_of m.sorts.boxes place f) value ≡ true))

-- at each place that was held before there is what was there
abbrev pub SortsStay : Held → Held → Type 0
SortsStay old new = SameBelow old.sorts.records new.sorts.records (held_of old)

-- the same cells at the same places, and the same room
abbrev pub HoldsTheSame : Held → Held → Type 0
HoldsTheSame old new =
    (held_cells new.bound ≡ held_cells old.bound)
    × ((new.bound.seat.me.room ≡ old.bound.seat.me.room) × SortsStay old new)

module _ (old new : Held) where
  -- Coming in: it holds the anchor alone.
  abbrev pub ComesIn : Code → Type 0
  ComesIn code.Ok = IsOut old × (HoldsAs new.sorts new.bound.seat.me
      × ((held_of new ≡ 1) × (new.bound.seat.me.room ≡ old.bound.seat.me.room)))
  ComesIn code.IsIn = IsIn old × (new ≡ old)
  ComesIn _ = ⊥

  -- Going out.
  abbrev pub GoesOut : Code → Type 0
  GoesOut code.Ok = IsIn old × (IsOut new × (new.bound.seat.me.room ≡ old.bound.seat.me.room))
  GoesOut code.NotIn = IsOut old × (new ≡ old)
  GoesOut _ = ⊥

  -- The safe point: one look, and the answer exactly where this asked for one.
  abbrev pub ReachesSafePoint : Code → Type 0
  ReachesSafePoint code.Ok = IsIn old × ((new.sorts ≡ old.sorts) × ((asked : Bool)
      × Calm (LookAndAnswer old.bound.seat.me.number old.bound.seat.me.presence.status asked)
      old.bound new.bound))
  ReachesSafePoint code.NotIn = IsOut old × (new ≡ old)
  ReachesSafePoint _ = ⊥

  -- What is held at each place stays so.
  abbrev pub KeepsChosen : (n place count : ℕ) → Code → Type 0
  KeepsChosen n place count code.Ok = IsIn old
      × (Narrows n place count old.bound new.bound
      × (SameBelow old.sorts.records new.sorts.records n
      × CopiedTo old.sorts.records new.sorts.records place n count))
  KeepsChosen n place count c = NotKept old n place count c × (new ≡ old)

  -- One load of the field gave the value, which is of the sort that the field names.
  abbrev pub ReadsField : (place f : ℕ) → Result Value Code → Type 0
  ReadsField place f (Ok value) = MayReach old place f
      × (Gave old.bound place f value new.bound
      × (IsOfTheSort new.sorts (sort_found old.sorts place f) value × SortsStay old new))
  ReadsField place f (Err c) = NotRead old place f c × (new ≡ old)

  -- Five loads, one after the other.
  abbrev pub ReadsAllFields : (place five : ℕ) → Result (List Value) Code → Type 0
  ReadsAllFields place five (Ok given) =
      (five ≡ 5) × (MayReach old place 0 × (GaveAll old.bound place given new.bound
      × (AreOfTheirSort old.sorts place given new.sorts × SortsStay old new)))
  ReadsAllFields place five (Err c) = NotReadAll old place five c × (new ≡ old)

  abbrev pub ComparesPlaces : (one other : ℕ) → Result Bool Code → Type 0
  ComparesPlaces one other (Ok same) = IsIn old
      × ((same ≡ (target old.bound.seat.me one == target old.bound.seat.me other))
      × ((new.sorts ≡ old.sorts) × KeepsPlaces old.bound new.bound))
  ComparesPlaces one other (Err c) = NotCompared old one other c × (new ≡ old)

module _ (t : Turns) (old new : Held) where
  -- One store, or one exchange for what was read just before; or each try was refused, since
  -- another thread wrote the field.
  abbrev pub WritesField : (place f : ℕ) → HeapVal → Code → Type 0
  WritesField place f val code.Ok = (new.sorts ≡ old.sorts) × ((value : Value)
      × (MayWrite old place f value × (Means t (held_of old) val value
      × Wrote place f value old.bound new.bound)))
  WritesField place f val code.Moved = (new.sorts ≡ old.sorts) × ((value : Value)
      × (MayWrite old place f value × (Means t (held_of old) val value
      × AllRefused place f value old.bound new.bound)))
  WritesField place f val c = NotWritten t old place f val c × (new ≡ old)

  -- One exchange, which found this.
  abbrev pub Exchanges : (place f : ℕ) → (was now : HeapVal) → (Value → Field → Type 0) → Type 0
  Exchanges place f was now Found = (new.sorts ≡ old.sorts) × ((expected value : Value)
      × (MayWrite old place f value × (Means t (held_of old) was expected
      × (Means t (held_of old) now value × ((found : Field) × (Found expected found
      × Updated HoldsSorted no_field_is_fixed same_pass old.bound place f expected value found
      new.bound))))))

  -- What the exchange found is what was expected, or something else.
  abbrev pub SwapsField : (place f : ℕ) → (was now : HeapVal) → Code → Type 0
  SwapsField place f was now code.Ok = Exchanges place f was now
      (λ expected found. found ≡ field_at old.bound.seat.me.own.held expected)
  SwapsField place f was now code.Moved = Exchanges place f was now
      (λ expected found. same_field found (field_at old.bound.seat.me.own.held expected) ≡ false)
  SwapsField place f was now c = NotSwapped t old place f was now c × (new ≡ old)

  -- A box of these fields was made of a cell that was claimed, and shown; or no cell was found.
  abbrev pub MakesCell : List HeapVal → Result ℕ Code → Type 0
  MakesCell vals (Ok place) = IsIn old × (IsIn new × ((place ≡ held_of old)
      × ((HoldsOneMore old.bound new.bound
      × ((new.bound.seat.me.room ≡ old.bound.seat.me.room) × SortsStay old new))
      × ((holds_record new.sorts place ≡ false) × ((given : List Value)
      × (AreMeant t (held_of old) vals given × (AreFit old.sorts given × ((raw : Bound Sorting)
      × (HoldsRaw old.sorts raw place × Made place given raw new.bound)))))))))
  MakesCell vals (Err code.Wait) = IsIn old × HoldsTheSame old new
  MakesCell vals (Err code.Full) = IsIn old × HoldsTheSame old new
  MakesCell vals (Err c) = NotMade t old vals c × (new ≡ old)

-- A cell is made, and the first places are kept with it alone; or no more than a make may do.
abbrev pub MakesAt : Turns → (old new : Held) → (first : ℕ) → List HeapVal → Code → Type 0
MakesAt t old new first vals c =
    ((c ≡ code.Ok) × ((place : ℕ) × ((between : Held)
    × (MakesCell t old between vals (Ok place) × KeepsChosen between new first place 1 code.Ok))))
    ⊎ (((c ≡ code.BadPlace) × (((first < 1) ⊎ (held_of old < first)) × (new ≡ old)))
    ⊎ MakesCell t old new vals (Err c))
