-- The writes of a call: a call that only reads makes none, a commit that is made one, and a refused
-- commit none except the exchange that it lost; a trim makes at most one, that of a link.
-- Source: this project's.
use Rattle.std.specs.Prelude.{ℕ, ◌≡◌, ◌⊎◌, Bool, true, false, List, [], ◌∷◌, ◌++◌, Some}
use Rattle.cell_words.specs.declared.controls.Control.{Control}
use Rattle.cell_words.specs.declared.fields.Field.{Field}
use Rattle.cell_words.specs.declared.fields.Field.TheVariants as field
use Rattle.core_machine.specs.declared.events.Event.{Event}
use Rattle.core_machine.specs.declared.events.Event.TheVariants as event
use Rattle.core_machine.specs.declared.events.Found.TheVariants as finds
use Rattle.core_machine.specs.declared.events.Taken.{Taken}
use Rattle.core_machine.specs.Words.{lets_store, same_field}
use Rattle.heap_rule.specs.Rule.{took}
use Rattle.mutator_seat.specs.Bound.{Bound}
use Rattle.mutator_seat.specs.Claims.{Seeking}
use Rattle.mutator_seat.specs.Stretches.{Calm}
use Rattle.trails.specs.Claims.{look_of}
use Rattle.version_rule.specs.Pass.{Pass}
use Rattle.version_store.specs.declared.fault.CommitFault.{CommitFault}
use Rattle.version_store.specs.declared.fault.CommitFault.TheVariants as faults

abbrev pub is_write : Event → Bool
is_write (event.Write i place f old new) = true
is_write (event.Store i new) = true
is_write _ = false

-- a look, an answer, or a write
abbrev pub is_act : Event → Bool
is_act (event.Look i) = true
is_act (event.Answer i) = true
is_act e = is_write e

abbrev pub kept_if : Bool → Taken → List Taken
kept_if true t = t ∷ []
kept_if false t = []

-- those among some events of which this holds, in order
abbrev pub chosen : (Event → Bool) → List Taken → List Taken
chosen is [] = []
chosen is (t ∷ ts) = kept_if (is t.event) t ++ chosen is ts

-- the trail grew by events; those of this kind among them are these
pub record Chosen (is : Event → Bool) (these : List Taken) (old new : Bound Pass) : Type 0 where
  pub added : List Taken
  pub trail : new.seat.me.trail ≡ old.seat.me.trail ++ added
  pub are : chosen is added ≡ these

-- the writes of a call are these
abbrev pub Writes : List Taken → Bound Pass → Bound Pass → Type 0
Writes writes old new = Chosen is_write writes old new

abbrev pub WritesNothing : Bound Pass → Bound Pass → Type 0
WritesNothing old new = Writes [] old new

-- the exchange of the anchor's field
abbrev pub exchange : ℕ → Field → Field → Field → Taken
exchange number from box found = took (event.Write number 0 0 from box) (finds.Field found)

-- only one write, of the anchor's field, which found what it was to find
pub record WritesOnce (old new : Bound Pass) : Type 0 where
  pub from : Field
  pub box : Field
  pub writes : Writes (exchange old.seat.me.number from box from ∷ []) old new

-- or which found something else, and so left it
pub record LosesOnce (old new : Bound Pass) : Type 0 where
  pub from : Field
  pub box : Field
  pub found : Field
  pub other : same_field found from ≡ false
  pub writes : Writes (exchange old.seat.me.number from box found ∷ []) old new

-- a store of null where a store may be begun, and elsewhere an exchange of a version's link for
-- null
abbrev pub EndsLink : Bool → ℕ → Event → Type 0
EndsLink true number (event.Store i new) = (i ≡ number) × (new ≡ field.Null)
EndsLink false number (event.Write i place f old new) = (i ≡ number) × (f ≡ 2) × (new ≡ field.Null)
EndsLink _ number _ = ⊥

-- Only one write, which ends a link. One look came before it, and no answer to a handshake. The
-- status and what the look found decide whether the write is a store or an exchange.
pub record WritesLink (old new : Bound Pass) : Type 0 where
  pub control : Control
  pub taken : Taken
  pub ends : EndsLink (lets_store old.seat.me.presence.status (Some control))
      old.seat.me.number taken.event
  pub acts : Chosen is_act (look_of old.seat.me.number control ∷ taken ∷ []) old new
  pub writes : Writes (taken ∷ []) old new

-- it neither wrote nor looked nor answered, and its status is as it was
pub record ReadsAlone (old new : Bound Pass) : Type 0 where
  pub acts : Chosen is_act [] old new
  pub status : new.seat.me.presence.status ≡ old.seat.me.presence.status

-- What a refused commit did. If it read a newer version: it wrote nothing, or lost one exchange and
-- then read. If it found no free cell: it looked, marked, answered and tried to claim. Otherwise it
-- did nothing at all.
abbrev pub Leaves : Bound Pass → Bound Pass → CommitFault → Type 0
Leaves old new (faults.Moved newer) = WritesNothing old new ⊎ LosesOnce old new
Leaves old new (faults.Full full) = Calm Seeking old new
Leaves old new faults.Worn = new ≡ old
