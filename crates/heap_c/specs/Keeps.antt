-- What calls that go out or let places go leave of private records, code by code.
-- Source: this project's.
use Rattle.std.specs.Prelude.{ℕ, ◌≡◌, ◌<◌, ◌⊎◌, [], List}
use Rattle.local_records.specs.Local.{IsNextTurn, Local}
use Rattle.minor_heap.specs.Spans.{NoneMarked}
use Rattle.heap_c.specs.Calls.{GoesOut, KeepsChosen, MakesAt}
use Rattle.heap_c.specs.Holding.{Held, Mutator, Owned, StillLocal}
use Rattle.heap_c.specs.declared.codes.Code.{Code}
use Rattle.heap_c.specs.declared.codes.Code.TheVariants as code
use Rattle.heap_c.specs.declared.turns.Turns.{Turns}
use Rattle.heap_c.specs.declared.values.HeapVal.{HeapVal}

-- no private record is left, and as many as before may be made
pub record IsCleared (old new : Local) : Type 0 where
  pub records : new.records ≡ []
  pub roots : new.roots ≡ []
  pub none : NoneMarked new.copied
  pub aged : new.aged ≡ 0
  pub turn : IsNextTurn old.turn new.turn
  pub room : new.room ≡ old.room
  pub most : new.most ≡ old.most

-- of a call that does this, after which the same places are steady
abbrev pub OnOwned : (Owned → Owned → Code → Type 0) → Mutator → Mutator → Code → Type 0
OnOwned Does old new c = Does old.owned new.owned c × (new.steady ≡ old.steady)

-- and that leaves private records alone
abbrev pub OnHeld : (Held → Held → Code → Type 0) → Mutator → Mutator → Code → Type 0
OnHeld Does old new c = Does old.owned.held new.owned.held c × StillLocal old new

module _ (old new : Owned) where
  abbrev pub EndsAll : Code → Type 0
  EndsAll code.Ok = GoesOut old.held new.held code.Ok × IsCleared old.local new.local
  EndsAll c = GoesOut old.held new.held c × (new.local ≡ old.local)

  -- a place that private records, copies or roots name would go
  abbrev pub IsNamed : ℕ → Code → Type 0
  IsNamed n c = (c ≡ code.BadPlace) × ((n < old.local.named) × (new ≡ old))

  abbrev pub KeepsAbove : (n place count : ℕ) → Code → Type 0
  KeepsAbove n place count c = IsNamed n c
      ⊎ (KeepsChosen old.held new.held n place count c × (new.local ≡ old.local))

  abbrev pub MakesAbove : Turns → (first : ℕ) → List HeapVal → Code → Type 0
  MakesAbove t first vals c = IsNamed first c
      ⊎ (MakesAt t old.held new.held first vals c × (new.local ≡ old.local))
