-- One step of a seat: what the seat knows when it makes it, what its maker owes, what the client's
-- rule asks, and what the step tells.
-- Source: this project's.
use Rattle.std.specs.Prelude.{ℕ, ◌≡◌, ◌<◌, ◌≤◌, Bool, true, false, List, slice_set, slice_index_or}
use mathlib.Core.Option.{some}
use lib.ListN.{get_elem?}
use Rattle.core_machine.specs.declared.events.Event.{Event}
use Rattle.core_machine.specs.declared.events.Found.{Found}
use Rattle.core_machine.specs.Frames.{Knows}
use Rattle.core_machine.specs.InRange.{IsShaped, HasWords}
use Rattle.core_machine.specs.Next.{after, can, found_by}
use Rattle.core_machine.specs.State.{State, greatest_cells, own_of, presence_of, room_of}
use Rattle.core_machine.specs.Table.{index_of}
use Rattle.core_machine.specs.WordOperations.{IsPackedAs, left_by, operation_of, word_of}
use Rattle.dlg_core.specs.Collects.{IsOver}
use Rattle.dlg_core.specs.Consistent.{IsConsistent}
use Rattle.heap_rule.specs.declared.known.Learned.{Learned}
use Rattle.heap_rule.specs.declared.view.View.{View}
use Rattle.heap_rule.specs.Boxes.{Map, boxes_by, boxes_of}
use Rattle.heap_rule.specs.Facts.{Facts, Proper}
use Rattle.heap_rule.specs.Lore.{Lore, known_in, learned, lore_after}
use Rattle.heap_rule.specs.Rule.{IsAlone, told, told_collector}

-- What stands of every state that a table shows.
pub record Shown (fixed : ℕ → Bool) (s : State) (l : Lore) : Type 0 where
  pub shaped : IsShaped s
  pub consistent : IsConsistent s
  pub words : HasWords s
  pub facts : Facts fixed s l

-- what is owed of an event besides what it touches: it can happen, it spares fixed fields and seals
-- terms, its word lies there, and the operation leaves f of the number found and tells g of it
pub record Owed (fixed : ℕ → Bool) (s : State) (l : Lore) (e : Event) (word : ℕ) (f g : ℕ
    → ℕ) : Type 0 where
  pub happens : can s e ≡ true
  pub proper : Proper fixed s l e
  pub index : index_of s.mutators (word_of s e) ≡ word
  pub left : (n : ℕ) → f n ≡ left_by (operation_of s e) n
  pub tells : (n : ℕ) → IsPackedAs (found_by s e) n → IsPackedAs (found_by s e) (g n)

module _ {P : Type 0} where
  -- What a mutator's seat knows of the state at its step.
  pub record Mine (fixed : ℕ → Bool) (v : View P) (s : State) (l : Lore) : Type 0 where
    pub shown : Shown fixed s l
    pub cells : s.cells ≡ v.shape.cells
    pub mutators : s.mutators ≡ v.shape.mutators
    pub few : v.shape.cells ≤ greatest_cells
    pub number : v.number < v.shape.mutators
    pub room : room_of s v.number ≡ v.room
    pub own : own_of s v.number ≡ v.own
    pub presence : Knows v.presence (presence_of s v.number)
    pub known : known_in l.known v.number ≡ v.known

  -- and the collector's
  pub record Ours (fixed : ℕ → Bool) (v : View P) (s : State) (l : Lore) : Type 0 where
    pub shown : Shown fixed s l
    pub cells : s.cells ≡ v.shape.cells
    pub mutators : s.mutators ≡ v.shape.mutators
    pub few : v.shape.cells ≤ greatest_cells
    pub control : s.control ≡ v.control
    pub part : s.collector ≡ v.part
    -- who was found over is, and where the state is known it is this one
    pub over : (i : ℕ) → slice_index_or v.over i false ≡ true → IsOver s i
    pub alone : IsAlone v.alone s

  abbrev pub Owes : (ℕ → Bool) → View P → Event → ℕ → (ℕ → ℕ) → (ℕ → ℕ) → Type 0
  Owes fixed v e word f g = (s : State) (l : Lore) → Mine fixed v s l → Owed fixed s l e word f g

  abbrev pub CollectorOwes : (ℕ → Bool) → View P → Event → ℕ → (ℕ → ℕ) → (ℕ → ℕ) → Type 0
  CollectorOwes fixed v e word f g = (s : State) (l : Lore) → Ours fixed v s l
      → Owed fixed s l e word f g

  -- The client's rule stands after the event with the pass that is picked: from what was learned,
  -- what was found, and the pass before.
  abbrev pub StandsBy : (Map → List P → Type 0) → (ℕ → Bool) → (Learned → Found → P → P) → View P
      → Event → Type 0
  StandsBy holds fixed next v e = (s : State) (l : Lore) (passes : List P) → Mine fixed v s l
      → can s e ≡ true
      → Proper fixed s l e → get_elem? passes v.number ≡ some v.pass → holds (boxes_of s l) passes
      → holds (boxes_of (after s e) (lore_after s l e))
      (slice_set passes v.number (next (learned s l e) (found_by s e) v.pass))

  -- What a step tells: the state, the lore and the passes at this moment, that the client's rule
  -- stood on them, that what was found is the number there, and what the seat knows after it.
  pub record AtStep (holds : Map → List P → Type 0) (fixed : ℕ → Bool) (v : View P) (e : Event)
      (next : Learned → Found → P → P) (number : ℕ) (w : View P) : Type 0 where
    pub core : State
    pub lore : Lore
    pub passes : List P
    pub mine : Mine fixed v core lore
    pub happens : can core e ≡ true
    pub kept : holds (boxes_of core lore) passes
    pub pass : get_elem? passes v.number ≡ some v.pass
    pub says : IsPackedAs (found_by core e) number
    pub new : w
        ≡ told v e (found_by core e) (learned core lore e)
        (next (learned core lore e) (found_by core e) v.pass)

  -- of the collector's
  pub record AtCollectorStep (fixed : ℕ
      → Bool) (v : View P) (e : Event) (number : ℕ) (w : View P) : Type 0 where
    pub core : State
    pub lore : Lore
    pub ours : Ours fixed v core lore
    pub happens : can core e ≡ true
    pub says : IsPackedAs (found_by core e) number
    pub new : w ≡ told_collector v e (found_by core e) (after core e)

  -- What a client shows where it picks its pass: that its rule stands on the boxes that the event
  -- would leave if nothing became unreachable. Its own law does the rest.
  abbrev pub Picks : (Map → List P → Type 0) → (ℕ → Bool) → (Learned → Found → P → P) → View P
      → Event → Type 0
  Picks holds fixed next v e = (s : State) (l : Lore) (passes : List P) → Mine fixed v s l
      → can s e ≡ true
      → Proper fixed s l e → get_elem? passes v.number ≡ some v.pass → holds (boxes_of s l) passes
      → holds (boxes_by s l e)
      (slice_set passes v.number (next (learned s l e) (found_by s e) v.pass))

  -- the pass stays
  abbrev pub same_pass : Learned → Found → P → P
  same_pass tells found pass = pass
