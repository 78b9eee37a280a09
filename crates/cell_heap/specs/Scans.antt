-- What the call that scans a cell tells: the list of events, and what is known after the last one.
-- Source: this project's.
use Rattle.std.specs.Prelude.{ℕ, ◌≡◌, ◌<◌, ◌+◌, ◌++◌, List, [], ◌∷◌, length, map, Option, Some}
use Rattle.std.specs.Prelude.{None, IfSome}
use Rattle.cell_heap.specs.Collecting.{IsCollectors}
use Rattle.cell_heap.specs.Runs.{TellsAll}
use Rattle.cell_words.specs.declared.colours.Colour.{Colour}
use Rattle.cell_words.specs.declared.fields.Field.{Field}
use Rattle.cell_words.specs.declared.fields.Field.TheVariants as field
use Rattle.core_machine.specs.declared.events.Event.TheVariants as event
use Rattle.core_machine.specs.declared.events.Found.TheVariants as finds
use Rattle.core_machine.specs.declared.events.Taken.{Taken}
use Rattle.core_machine.specs.declared.progress.Scanning.{Scanning}
use Rattle.heap_rule.specs.Rule.{took}
use Rattle.heap_table.specs.Seats.{HeapId, IsSeatOf, SeatView}

-- the scan is at this field of the cell
abbrev pub scan_at : ℕ → ℕ → Scanning
scan_at cell f = record { cell = cell; next = f; child = None }

-- A field that was loaded, and the colour that the child in it had when it was shaded. Where there
-- is no child the colour is of no account.
pub record Loaded : Type 0 where
  pub value : Field
  pub shade : Colour

abbrev pub child_in : Field → Option ℕ
child_in field.Null = None
child_in (field.Num n) = None
child_in (field.Cell child) = Some child

abbrev pub children_in : List Loaded → List (Option ℕ)
children_in loaded = map (λ (x : Loaded). child_in x.value) loaded

abbrev pub shades_child : Option ℕ → Colour → List Taken
shades_child None k = []
shades_child (Some child) k = took event.Shade (finds.Colour k) ∷ []

-- a load of a field; the child in it is shaded straight after
abbrev pub scan_field : Loaded → List Taken
scan_field x = took event.Scan (finds.Field x.value) ∷ shades_child (child_in x.value) x.shade

-- fields one after the other
abbrev pub scan_over : List Loaded → List Taken
scan_over [] = []
scan_over (x ∷ xs) = scan_field x ++ scan_over xs

abbrev pub blackens : List Taken
blackens = took event.Blacken finds.Stored ∷ []

-- each child is a cell that there is
abbrev pub AreBelow : ℕ → List (Option ℕ) → Type 0
AreBelow cells [] = Unit {0}
AreBelow cells (c ∷ cs) = IfSome c (λ child. child < cells) × AreBelow cells cs

module _ {P : Type 0} where
  -- The collector of this heap scans a cell, and is at this field of it.
  pub record IsAtField (heap : HeapId) (mutators cell f : ℕ) (seat : SeatView P) : Type 0 where
    pub seat_is : IsSeatOf heap seat
    pub collector : IsCollectors seat.me
    pub mutators_are : mutators ≡ seat.me.shape.mutators
    pub scan_is : seat.me.part.scan ≡ Some (scan_at cell f)

  -- One field of a cell was scanned.
  pub record ScansField (cell f : ℕ) (child : Option ℕ) (old new : SeatView P) : Type 0 where
    pub loaded : Loaded
    pub told : TellsAll old (scan_field loaded) new
    pub child_is : child ≡ child_in loaded.value
    pub below : IfSome child (λ c. c < old.me.shape.cells)
    pub control : new.me.control ≡ old.me.control
    pub part : new.me.part ≡ record old.me.part { scan = Some (scan_at cell (f + 1)) }

  -- A cell was scanned from this field on, and made black.
  pub record ScansFrom (f : ℕ) (children : List (Option ℕ)) (old new : SeatView P)
      : Type 0 where
    pub loaded : List Loaded
    pub told : TellsAll old (scan_over loaded ++ blackens) new
    pub many : f + length loaded ≡ 5
    pub children_are : children ≡ children_in loaded
    pub below : AreBelow old.me.shape.cells children
    pub control : new.me.control ≡ old.me.control
    pub part : new.me.part ≡ record old.me.part { scan = None }

  -- All five fields of a cell were scanned, and it was made black.
  abbrev pub ScansCell : List (Option ℕ) → SeatView P → SeatView P → Type 0
  ScansCell children old new = ScansFrom 0 children old new
