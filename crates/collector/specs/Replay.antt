-- The collector's work as its own trail shows it: where a pass of tracing is, and what waits on the
-- mark stack. Each is a function of the events, from what stood before the first of them.
-- Source: this project's.
use Rattle.std.specs.Prelude.{ℕ, ◌+◌, ◌==◌, ◌&&◌, Bool, true, false, not, cond, List, [], ◌∷◌}
use Rattle.cell_words.specs.declared.controls.Control.{Control}
use Rattle.core_machine.specs.Collector.{Collector, collector_after, control_after, restarted}
use Rattle.core_machine.specs.Tracing.{child_or_anchor, scan_or_none}
use Rattle.core_machine.specs.Words.{is_gray}
use Rattle.core_machine.specs.declared.events.Event.{Event}
use Rattle.core_machine.specs.declared.events.Event.TheVariants as event
use Rattle.core_machine.specs.declared.events.Found.{Found}
use Rattle.core_machine.specs.declared.events.Found.TheVariants as finds
use Rattle.core_machine.specs.declared.events.Taken.{Taken}
use Rattle.collector.specs.Bound.{Bound, cells_of, control_of, part_of}
use Rattle.collector.specs.Stack.{Stack, emptied, has_room, looked_at, next_of, pushed}

-- How far the work is, in a heap of so many cells.
pub record Work : Type 0 where
  pub cells : ℕ
  pub control : Control
  pub part : Collector
  pub stack : Stack

-- the child that the scan has found
abbrev pub child_in : Collector → ℕ
child_in part = child_or_anchor (scan_or_none part.scan).child

-- a look takes its cell from the stack, and a shaded child is pushed where there is room
abbrev pub stack_after : Stack → Collector → Event → Stack
stack_after stack part (event.See c) = looked_at c stack
stack_after stack part event.Shade = pushed (child_in part) stack
stack_after stack part _ = stack

abbrev pub work_after : Work → Taken → Work
work_after w t = record w {
  control = control_after w.control t.event;
  part = collector_after w.cells w.control w.part t.event t.found;
  stack = stack_after w.stack w.part t.event;
}

abbrev pub work_after_all : Work → List Taken → Work
work_after_all w [] = w
work_after_all w (t ∷ ts) = work_after_all (work_after w t) ts

-- how many of the events are such, each by how far the work was before it
abbrev pub count_along : (Work → Taken → Bool) → Work → List Taken → ℕ
count_along test w [] = 0
count_along test w (t ∷ ts) = cond (test w t) 1 0 + count_along test (work_after w t) ts

-- A pass of tracing ends where it goes by the last cell.

abbrev pub goes_by : Found → Bool
goes_by (finds.Colour found) = not (is_gray found)
goes_by _ = false

abbrev pub sees_last : Work → Event → Found → Bool
sees_last w (event.See c) found =
    goes_by found && ((c == (restarted w.part w.cells).cursor) && (c + 1 == w.cells))
sees_last w _ found = false

abbrev pub ends_pass : Work → Taken → Bool
ends_pass w t = sees_last w t.event t.found

-- A look is at the cell that is next: the topmost one on the stack that is not the one to which the
-- pass has come, or this one. So a cycle without mutators, none of whose looks strays, is a run
-- whose every event is fixed, and no invariant of a loop is needed for it (proofs/TwoPasses).

abbrev pub looks_next : Work → Event → Bool
looks_next w (event.See c) = c == next_of (restarted w.part w.cells).cursor w.stack.cells
looks_next w _ = true

abbrev pub strays : Work → Taken → Bool
strays w t = not (looks_next w t.event)

-- A shaded child is pushed, or finds the stack full.

abbrev pub is_shade : Event → Bool
is_shade event.Shade = true
is_shade _ = false

abbrev pub stacks : Work → Taken → Bool
stacks w t = is_shade t.event && has_room w.stack

abbrev pub spills : Work → Taken → Bool
spills w t = is_shade t.event && not (has_room w.stack)

module _ {P : Type 0} where
  -- how far a collector is
  abbrev pub work_of : Bound P → Work
  work_of c =
      record { cells = cells_of c; control = control_of c; part = part_of c; stack = c.stack }

  -- with nothing on its stack
  abbrev pub fresh_work_of : Bound P → Work
  fresh_work_of c = record (work_of c) { stack = emptied c.stack }
