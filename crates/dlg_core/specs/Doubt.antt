-- Pending writes: what holds of each, and which fields they put in doubt.
--
-- A field is doubtful where a mutator has read it to store over it, and it has another value since:
-- that store will end an edge for which no mark was made. Doubt is said of the own parts and a
-- value that is given, and not of the rows: so it stays through whatever changes no own part.
-- Source: this project's.
use Rattle.std.specs.Prelude.{ℕ, ◌≡◌, ◌≢◌, ◌<◌, true, List, length, Some}
use Rattle.cell_words.specs.declared.fields.Field.{Field}
use Rattle.cell_words.specs.declared.fields.Field.TheVariants.{Cell}
use Rattle.cell_words.specs.declared.presences.Presence.{Presence}
use Rattle.cell_words.specs.declared.presences.Status.{Status}
use Rattle.core_machine.specs.declared.pending.Pending.{Pending}
use Rattle.core_machine.specs.Own.{Own}
use Rattle.core_machine.specs.Places.{cell_at, holds}
use Rattle.core_machine.specs.State.{field_in, presence_in, own_in}
use Rattle.core_machine.specs.Words.{is_box_kind, lets_store}

-- a pending write stands with a mode that lets it, on a payload field of a held box, and the cell
-- that was read is held
pub record IsPending (own : Status) (part : Own) (rows : List (List Field))
    (write : Pending) : Type 0 where
  pub lets : lets_store own part.mode ≡ true
  pub there : write.place < length part.held
  pub payload : write.f < 5
  pub box : is_box_kind (field_in rows (cell_at part.held write.place) 5) ≡ true
  pub found_held : (c : ℕ) → write.found ≡ Cell c → holds part.held c ≡ true

abbrev pub Pendings : List Presence → List Own → List (List Field) → Type 0
Pendings presences owns rows = (i : ℕ) (write : Pending) → (own_in owns i).pending ≡ Some write
    → IsPending (presence_in presences i).status (own_in owns i) rows write

-- the part has a pending write on this field, and has read another value than it has now
pub record IsInDoubt (part : Own) (c f : ℕ) (now : Field) : Type 0 where
  pub write : Pending
  pub begun : part.pending ≡ Some write
  pub cell : cell_at part.held write.place ≡ c
  pub same : write.f ≡ f
  pub changed : write.found ≢ now

-- some mutator's part has
pub record IsDoubtful (owns : List Own) (c f : ℕ) (now : Field) : Type 0 where
  pub mutator : ℕ
  pub doubt : IsInDoubt (own_in owns mutator) c f now
