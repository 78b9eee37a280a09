-- The hints of a call that copies: one is taken for each record in this call, and the claim of the
-- cell for its copy tries the hint's cell first.
-- Source: this project's.
use Rattle.std.specs.Prelude.{ℕ, ◌≡◌, ◌<◌, ◌≤◌, ◌+◌, Bool, true, false, List, [], ◌∷◌, ◌++◌, length}
use Rattle.std.specs.Prelude.{Option, Some, None, IfSome, map, slice_index_or}
use Rattle.std.specs.List.{list_all}
use Rattle.cell_words.specs.declared.colours.Colour.{Colour}
use Rattle.cell_words.specs.declared.colours.Colour.TheVariants as colour
use Rattle.cell_words.specs.declared.controls.Control.{Control}
use Rattle.core_machine.specs.declared.events.Event.{Event}
use Rattle.core_machine.specs.declared.events.Event.TheVariants as event
use Rattle.core_machine.specs.declared.events.Found.TheVariants as finds
use Rattle.core_machine.specs.declared.events.Taken.{Taken}
use Rattle.free_cells.specs.declared.hints.Hints.{Hints}
use Rattle.free_cells.specs.Hints.{cells_of, counts_of, queue_of}
use Rattle.heap_rule.specs.Rule.{took}
use Rattle.minor_heap.specs.declared.fields.MinorField.{MinorField}
use Rattle.minor_heap.specs.declared.fields.MinorRef.{MinorRef}
use Rattle.minor_heap.specs.Marking.{marked_of}
use Rattle.minor_heap.specs.Reaches.{AreReached}
use Rattle.mutator_seat.specs.Bound.{Bound}
use Rattle.mutator_seat.specs.Claims.{Seeking}
use Rattle.mutator_seat.specs.Takes.{GiveAll}
use Rattle.promotion.specs.Linking.{AreKeeping}
use Rattle.promotion.specs.Promoting.{Adds}
use Rattle.trails.specs.Claims.{look_of}

-- Hints of records.

-- the hint of a record, and those of the records that are marked
abbrev pub hint_at : List (Option ℕ) → MinorRef → Option ℕ
hint_at hints r = slice_index_or hints r.number None

abbrev pub hints_of : List (Option ℕ) → List Bool → List (Option ℕ)
hints_of hints marks = map (hint_at hints) (marked_of 0 marks)

-- a record that had a hint still has the same one
abbrev pub KeepHints : List (Option ℕ) → List (Option ℕ) → Type 0
KeepHints old new =
    (k cell : ℕ) → slice_index_or old k None ≡ Some cell → slice_index_or new k None ≡ Some cell

-- Claims.

-- the first events are a look and a claim of this cell
pub record TryFirst (number cell : ℕ) (events : List Taken) : Type 0 where
  pub control : Control
  pub found : Colour
  pub rest : List Taken
  pub split : events ≡ look_of number control
      ∷ took (event.Claim number cell) (finds.Colour found) ∷ rest

abbrev pub makes_record : Event → Bool
makes_record (event.Fill i place f value) = true
makes_record (event.Seal i place kind) = true
makes_record _ = false

-- One copy: a cell is sought and claimed, and then filled and sealed. Where the heap has the cell
-- of the hint, that one is tried first.
pub record IsCopy (number cells : ℕ) (hint : Option ℕ) (events : List Taken) : Type 0 where
  pub sought : List Taken
  pub cell : ℕ
  pub made : List Taken
  pub split : events ≡ sought
      ++ took (event.Claim number cell) (finds.Colour colour.Blue) ∷ made
  pub seeks : Seeking sought
  pub makes : list_all (λ (t : Taken). makes_record t.event) made ≡ true
  pub tries : IfSome hint (λ own. own < cells → TryFirst number own events)

-- one copy after the other, each with its hint
abbrev pub AreCopies : ℕ → ℕ → List (Option ℕ) → List Taken → Type 0
AreCopies number cells [] events = events ≡ []
AreCopies number cells (hint ∷ hints) events =
    (first : List Taken) × ((rest : List Taken) × ((events ≡ first ++ rest)
    × (IsCopy number cells hint first × AreCopies number cells hints rest)))

-- and then only what is held changes
pub record CopyBy (number cells : ℕ) (hints : List (Option ℕ)) (events : List Taken) : Type 0 where
  pub copying : List Taken
  pub keeping : List Taken
  pub split : events ≡ copying ++ keeping
  pub copies : AreCopies number cells hints copying
  pub keeps : AreKeeping number 0 keeping

module _ {P : Type 0} where
  -- The first takes of the call give the hint of each record that is copied. The copies are made
  -- with these hints, in the same order.
  pub record Hinted (old : Bound P) (records : List (List MinorField)) (from : List MinorRef)
      (before after : Hints) (new : Bound P) : Type 0 where
    pub copied : List MinorRef
    pub reached : AreReached records from copied
    pub hint : MinorRef → Option ℕ
    pub given : GiveAll (cells_of (queue_of before)) (counts_of before) (map hint copied)
    pub takes : (counts_of before).takes + length copied ≤ (counts_of after).takes
    pub tried : Adds (CopyBy old.seat.me.number old.seat.me.shape.cells (map hint copied)) old new
