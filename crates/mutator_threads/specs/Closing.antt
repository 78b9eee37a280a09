-- What the close of a heap says when the seats of all its mutators were joined.
-- Source: this project's.
use Rattle.std.specs.Prelude.{ℕ, ◌≡◌, ◌≤◌, ◌<◌, ◌^◌, Bool, false, List, map}
use Rattle.beside_collector.specs.Freed.{freed_by}
use Rattle.beside_collector.specs.Service.{IsService}
use Rattle.core_machine.specs.State.{State}
use Rattle.dlg_core.specs.Collects.{IsTidy}
use Rattle.heap_rule.specs.Boxes.{Map}
use Rattle.heap_rule.specs.Laws.{Ended}
use Rattle.heap_rule.specs.Rule.{share_of}
use Rattle.heap_rule.specs.Shape.{Shape}
use Rattle.heap_rule.specs.declared.view.Place.{Place}
use Rattle.heap_rule.specs.declared.view.Place.TheVariants as places
use Rattle.heap_rule.specs.declared.view.View.{View}
use Rattle.heap_table.specs.Images.{Shows}
use Rattle.mutator_threads.specs.declared.closing.Closed.{Closed}

module _ {P : Type 0} where
  -- The collector served in at most so many cycles; it is off duty, and has freed so many cells.
  -- Fewer cycles leave no garbage.
  pub record HasCollected (shape : Shape) (cycles freed : ℕ) (core : State) (view : View P)
      : Type 0 where
    pub service : IsService cycles shape.mutators core.control.cycles view.trail
    pub cycles_are : core.control.cycles ≤ cycles
    pub tidy : core.control.cycles < cycles → IsTidy core
    pub off_duty : view.control.duty ≡ false
    pub freed_are : freed_by view.trail ≡ freed

  -- A heap of this shape was closed, where the collector had the parts of its mutators so.
  pub record HasClosed (opens : ℕ → ℕ → P) (holding : Map → List P → Type 0) (fixed : ℕ → Bool)
      (shape : Shape) (cycles : ℕ) (joined : List (Place P)) (closed : Closed P) : Type 0 where
    pub ended : Ended opens holding fixed shape (Unit {0}) closed.image.words closed.passes
    pub shows : Shows closed.image ended.shows.core
    pub collected : HasCollected shape cycles closed.freed ended.shows.core closed.passes
    pub places_are : closed.passes.places ≡ joined
    -- the image has the heap's cells, and the collector's own part has this number of freed ones
    pub cells_are : closed.image.cells ≡ shape.cells
    pub number_freed_is : closed.passes.part.number_freed ≡ closed.number_freed
    pub few_freed : closed.number_freed < 2 ^ 63

  -- the parts of mutators whose seats, of which these are the views, were joined in their order
  abbrev pub joined_parts : List (View P) → List (Place P)
  joined_parts views = map (λ (view : View P). places.Joined (share_of view)) views

  abbrev pub passes_of : List (View P) → List P
  passes_of views = map (λ (view : View P). view.pass) views

  -- The seats of all mutators were joined before: the passes of the last state are theirs.
  pub record IsClosed (opens : ℕ → ℕ → P) (holding : Map → List P → Type 0) (fixed : ℕ → Bool)
      (shape : Shape) (cycles : ℕ) (views : List (View P)) (closed : Closed P) : Type 0 where
    pub has_closed : HasClosed opens holding fixed shape cycles (joined_parts views) closed
    pub passes_are : has_closed.ended.shows.passes ≡ passes_of views
