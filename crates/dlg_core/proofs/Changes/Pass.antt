-- The collector's own part changes, but for its sweep: who has answered, the mark on the anchor,
-- how far it has come, and its scan.
use Rattle.std.proofs.Common.{ℕ, Bool, List, Option, inl, inr, true, false, not, nat_lt, Some, refl}
use Rattle.std.proofs.Common.{ap, eq-eqb, ◌≡◌, ◌≤◌, ◌==◌}
use Rattle.core_machine.specs.declared.progress.Scanning.{Scanning}
use Rattle.core_machine.specs.State.{State}
use Rattle.dlg_core.specs.Consistent.{IsConsistent, Answered, ChildIsLive, TracingConsistent}
use Rattle.std.proofs.lemmas.Bool.{and_from, lt-ltb, cases_lt}
use Rattle.dlg_core.specs.Facts.{is_open, scanned_count}

abbrev pub with_pass : State → List Bool → Bool → ℕ → Bool → Option Scanning → State
with_pass s answered marked cursor clean scan = record s {
  collector = record s.collector
      { answered = answered; anchor_marked = marked; cursor = cursor; clean = clean; scan = scan };
}

-- what the new part owes
pub record PassFits (s : State) (answered : List Bool) (marked : Bool) (cursor : ℕ) (clean : Bool)
    (scan : Option Scanning) : Type 0 where
  pub answers : Answered s.mutators s.control.stage s.presences answered
  pub child_live : ChildIsLive s.colours s.control s.collector.sweep scan
  pub tracing : TracingConsistent s.control.stage s.presences s.owns s.colours s.rows answered
      marked cursor clean scan

pub pass_kept : (s : State) (answered : List Bool) (marked : Bool) (cursor : ℕ) (clean : Bool)
    (scan : Option Scanning) → IsConsistent s
    → PassFits s answered marked cursor clean scan
    → IsConsistent (with_pass s answered marked cursor clean scan)
pass_kept s answered marked cursor clean scan k fits = record {
  mutators = record {
    statuses = k.mutators.statuses;
    answered = fits.answers;
    modes = k.mutators.modes;
    out = k.mutators.out;
    marks = k.mutators.marks;
  };
  cells = record {
    anchor_box = k.cells.anchor_box;
    kinds = k.cells.kinds;
    blue_null = k.cells.blue_null;
    anchor_live = k.cells.anchor_live;
    held_live = k.cells.held_live;
    child_live = fits.child_live;
    names_live = k.cells.names_live;
    raw_once = k.cells.raw_once;
    raw_not_black = k.cells.raw_not_black;
    pendings = k.cells.pendings;
  };
  tracing = fits.tracing;
  sweep = k.sweep;
}

-- the state with another scan
abbrev pub with_scan : State → Option Scanning → State
with_scan s scan = record s { collector = record s.collector { scan = scan } }

-- an open field of the cell under scan is not scanned
pub open_not_scanned : (x : Scanning) (f : ℕ) → is_open (Some x) x.cell f ≡ true
    → scanned_count x ≤ f
open_not_scanned x f h = elim (cases_lt f (scanned_count x)) [
  | inl lt ↦ absurd (
      let shut : is_open (Some x) x.cell f ≡ false
      = ap not (and_from (x.cell == x.cell) (nat_lt f (scanned_count x)) (eq-eqb x.cell x.cell refl)
      (lt-ltb f (scanned_count x) lt)) in cc)
  | inr le ↦ le
]
