-- What the tests of the definitions say.
use Rattle.std.proofs.Common.{◌≡◌, ◌⊎◌, inl, inr, ◌||◌, Bool, true, false, cond, refl, ℕ, zero, suc}
use Rattle.std.proofs.Common.{List, [], get_or, Option, Some, None, is_none, is_some, ◌∷◌, ap, ◌<◌}
use Rattle.cell_words.specs.declared.controls.Stage.{Stage}
use Rattle.cell_words.specs.declared.controls.Stage.TheVariants as stage
use Rattle.cell_words.specs.declared.presences.Status.{Status}
use Rattle.cell_words.specs.declared.presences.Status.TheVariants as status
use Rattle.core_machine.specs.Own.{pending_or_none}
use Rattle.core_machine.specs.Words.{same_status, is_raw_kind, is_box_kind}
use Rattle.std.proofs.lemmas.Bool.{and_parts, ltb-true, eqb-true}
use Rattle.dlg_core.specs.Facts.{all_in, async_fits}
use Rattle.cell_words.specs.declared.fields.Field.{Field}
use Rattle.cell_words.specs.declared.fields.Field.TheVariants as field
use Rattle.core_machine.specs.declared.pending.Pending.{Pending}
use Rattle.core_machine.specs.declared.progress.Scanning.{Scanning}
use Rattle.core_machine.specs.declared.progress.Sweeping.{Sweeping}
use Rattle.core_machine.specs.declared.progress.Sweeping.TheVariants as sweeping
use Rattle.core_machine.specs.Sweep.{may_wipe, may_free, is_black_found}

-- a disjunction by cases holds where its left part does
pub or_left : (a b : Bool) → a ≡ true → cond a true b ≡ true
or_left true b h = refl
or_left false b h = absurd cc

-- and where its right part does
pub or_right : (a b : Bool) → b ≡ true → cond a true b ≡ true
or_right true b h = refl
or_right false b h = h

pub or_split : (a b : Bool) → cond a true b ≡ true → (a ≡ true) ⊎ (b ≡ true)
or_split true b h = inl refl
or_split false b h = inr h

pub both : (a b : Bool) → a ≡ true → b ≡ true → cond a b false ≡ true
both true b p q = q
both false b p q = absurd cc

pub both_split : (a b : Bool) → cond a b false ≡ true → (a ≡ true) × (b ≡ true)
both_split true b h = (refl, h)
both_split false b h = absurd cc

-- Disjunctions by the operator.

pub or_here : (a b : Bool) → a ≡ true → (a || b) ≡ true
or_here true b h = refl
or_here false b h = absurd cc

pub or_later : (a b : Bool) → b ≡ true → (a || b) ≡ true
or_later true b h = refl
or_later false b h = h

-- Stages and statuses.

pub same_status_is : (a b : Status) → same_status a b ≡ true → a ≡ b
same_status_is status.Async status.Async h = refl
same_status_is status.Sync1 status.Sync1 h = refl
same_status_is status.Sync2 status.Sync2 h = refl
same_status_is _ _ h = absurd cc

-- who is among those that have all answered has answered
pub one_of_all : (answered : List Bool) (i : ℕ) → all_in answered ≡ true
    → get_or answered i true ≡ true
one_of_all [] i h = refl
one_of_all (a ∷ rest) zero h = (and_parts _ _ h).0
one_of_all (a ∷ rest) (suc i) h = one_of_all rest i (and_parts _ _ h).1

-- a box is not raw
pub box_not_raw : (x : Field) → is_box_kind x ≡ true → is_raw_kind x ≡ false
box_not_raw field.Null h = absurd cc
box_not_raw (field.Num n) h = refl
box_not_raw (field.Cell c) h = refl

-- Pending writes.

pub settled_is : (pending : Option Pending) → is_some pending ≡ false → pending ≡ None
settled_is None h = refl
settled_is (Some write) h = absurd cc

-- where one is pending it is this one
pub begun_is : (pending : Option Pending) → is_some pending ≡ true
    → pending ≡ Some (pending_or_none pending)
begun_is None h = absurd cc
begun_is (Some write) h = refl

-- The collector's progress.

pub no_scan_is : (scan : Option Scanning) → is_none scan ≡ true → scan ≡ None
no_scan_is None h = refl
no_scan_is (Some x) h = absurd cc

-- an async mutator's mode is of the tracing that goes on
pub async_mode : (looked : Stage) → async_fits looked stage.Trace ≡ true → looked ≡ stage.Trace
async_mode stage.Trace h = refl
async_mode _ h = absurd cc

pub free_is : (sweep : Sweeping) → may_free sweep ≡ true → sweep ≡ sweeping.Wiping 6
free_is (sweeping.Wiping k) h = ap (λ n. sweeping.Wiping n) (eqb-true k 6 h)
free_is _ h = absurd cc

pub black_found_is : (sweep : Sweeping) → is_black_found sweep ≡ true → sweep ≡ sweeping.BlackFound
black_found_is sweeping.BlackFound h = refl
black_found_is _ h = absurd cc

pub wipe_is : (sweep : Sweeping) → may_wipe sweep ≡ true
    → (n : ℕ) × (sweep ≡ sweeping.Wiping n) × (n < 6)
wipe_is (sweeping.Wiping n) h = (n, refl, ltb-true n 6 h)
wipe_is _ h = absurd cc
