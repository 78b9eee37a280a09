-- The events of copying: nothing that others see is written. A call that is refused gives up each
-- cell that was claimed, so that it is linked nowhere; one that is not refused only chooses what
-- stays held.
-- Source: this project's.
use Rattle.std.specs.Prelude.{ℕ, ◌≡◌, ◌≤◌, List, [], ◌∷◌, ◌++◌, All}
use Rattle.cell_words.specs.declared.fields.Kind.TheVariants as kind
use Rattle.core_machine.specs.declared.events.Event.{Event}
use Rattle.core_machine.specs.declared.events.Event.TheVariants as event
use Rattle.core_machine.specs.declared.events.Taken.{Taken}

-- It looks, marks, answers or claims; or it fills a cell at a place from this one on, or seals one
-- there as a record.
abbrev pub CopiesFrom : ℕ → Event → Type 0
CopiesFrom held (event.Look i) = Unit {0}
CopiesFrom held (event.Mark i place) = Unit {0}
CopiesFrom held (event.Answer i) = Unit {0}
CopiesFrom held (event.Claim i cell) = Unit {0}
CopiesFrom held (event.Fill i place f value) = held ≤ place
CopiesFrom held (event.Seal i place k) = (held ≤ place) × (k ≡ kind.Record)
CopiesFrom held _ = ⊥

abbrev pub AreCopying : ℕ → List Taken → Type 0
AreCopying held events = All (λ (t : Taken). CopiesFrom held t.event) events

-- nothing, or the one event that gives up the places from this one on
abbrev pub LetsGo : ℕ → ℕ → List Taken → Type 0
LetsGo number held [] = Unit {0}
LetsGo number held (t ∷ []) = t.event ≡ event.Keep number held 0 0
LetsGo number held (t ∷ u ∷ ts) = ⊥

-- what was copied after the first places is given up
pub record LinksNothing (number held : ℕ) (events : List Taken) : Type 0 where
  pub copying : List Taken
  pub back : List Taken
  pub split : events ≡ copying ++ back
  pub copies : AreCopying held copying
  pub lets_go : LetsGo number held back

-- the first places stay, up to this one at least, and others are copied after them
abbrev pub KeepsFrom : ℕ → ℕ → Event → Type 0
KeepsFrom number base (event.Keep i n place count) = (i ≡ number) × (base ≤ n)
KeepsFrom number base _ = ⊥

abbrev pub AreKeeping : ℕ → ℕ → List Taken → Type 0
AreKeeping number base events = All (λ (t : Taken). KeepsFrom number base t.event) events

-- copies after the places that were held, and after that only what is held changed
pub record KeepsCopies (number base held : ℕ) (events : List Taken) : Type 0 where
  pub copying : List Taken
  pub keeping : List Taken
  pub split : events ≡ copying ++ keeping
  pub copies : AreCopying held copying
  pub keeps : AreKeeping number base keeping
