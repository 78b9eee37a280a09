-- A mutator that has neither a mode nor a pending write gets another status: it answers, or the
-- collector answers for it.
use Rattle.std.proofs.Common.{◌≡◌, ◌≢◌, ℕ, true, false, None, ◌<◌, sym, subst, slice_index_or}
use Rattle.std.proofs.Common.{Option, Some, arith, ◌≤◌, ◌∙◌}
use Rattle.std.specs.List.{All}
use Rattle.std.proofs.lemmas.List.Elements.{All-weaker}
use Rattle.cell_words.specs.declared.colours.Colour.TheVariants.{White}
use Rattle.cell_words.specs.declared.controls.Stage.TheVariants as stage
use Rattle.cell_words.specs.declared.presences.Presence.{Presence}
use Rattle.cell_words.specs.declared.presences.Status.{Status}
use Rattle.cell_words.specs.declared.presences.Status.TheVariants as status
use Rattle.cell_words.specs.Modes.{requested_of}
use Rattle.core_machine.specs.declared.pending.Pending.{Pending}
use Rattle.core_machine.specs.State.{State, colour_of, own_in, presence_of, own_of, held_of}
use Rattle.core_machine.specs.Words.{is_handshake}
use Rattle.dlg_core.specs.Consistent.{IsConsistent, HoldsNothing, MarkStands, NoRawBlack}
use Rattle.dlg_core.specs.Doubt.{IsPending}
use Rattle.dlg_core.specs.Facts.{status_fits, IsStaleMode, marks_count, mode_fits}
use Rattle.dlg_core.proofs.Changes.Presence.{with_presence}
use Rattle.dlg_core.proofs.Doubtful.{no_pending}
use Rattle.dlg_core.proofs.Each.{presence_each}
use Rattle.dlg_core.proofs.CutOff.{not_white_outside}
use Rattle.cell_words.specs.declared.controls.Control.{Control}

-- the state with another status of mutator i
abbrev pub with_status : State → ℕ → Status → State
with_status s i new = with_presence s i (record (presence_of s i) { status = new })

-- what the new status owes
pub record StatusFits (s : State) (i : ℕ) (new : Status) : Type 0 where
  pub no_mode : (own_of s i).mode ≡ None
  pub nothing_pending : (own_of s i).pending ≡ None
  pub fits : status_fits s.control.stage new ≡ true
  pub requested : is_handshake s.control.stage ≡ true → new ≡ requested_of s.control.stage
  pub marks : marks_count s.control.stage new ≡ true → All (MarkStands s.colours) (held_of s i)
  pub raw_not_black : new ≡ status.Sync2 → All (NoRawBlack s.colours s.rows) (held_of s i)
  pub due : s.control.stage ≡ stage.Trace → new ≡ status.Async
      → All (λ p. colour_of s p.cell ≢ White) (held_of s i)

pub status_kept : (s : State) (i : ℕ) (new : Status) → IsConsistent s → StatusFits s i new
    → IsConsistent (with_status s i new)
status_kept s i new k fits =
    let p : Presence = record (presence_of s i) { status = new } in
    record {
      mutators = record {
        statuses = presence_each
            (λ j q. j < s.mutators → status_fits s.control.stage q.status ≡ true) s.presences i p
            (λ lt. fits.fits) k.mutators.statuses;
        answered = (λ j lt now has. presence_each
            (λ n q. n < s.mutators → slice_index_or s.collector.answered n true ≡ true
            → q.status ≡ requested_of s.control.stage) s.presences i p
            (λ below done. fits.requested now)
            (λ n below done. k.mutators.answered n below now done) j lt has);
        modes = presence_each
            (λ j q. IsStaleMode q.status (own_in s.owns j).mode s.control) s.presences i p
            (subst (λ m. IsStaleMode new m s.control) (sym fits.no_mode) tt) k.mutators.modes;
        out = presence_each
            (λ j q. q.inside ≡ false → HoldsNothing (own_in s.owns j)) s.presences i p
            (k.mutators.out i) k.mutators.out;
        marks = presence_each
            (λ j q. marks_count s.control.stage q.status ≡ true
            → All (MarkStands s.colours) (own_in s.owns j).held)
            s.presences i p fits.marks k.mutators.marks;
      };
      cells = record {
        anchor_box = k.cells.anchor_box;
        kinds = k.cells.kinds;
        blue_null = k.cells.blue_null;
        anchor_live = k.cells.anchor_live;
        held_live = k.cells.held_live;
        child_live = k.cells.child_live;
        names_live = k.cells.names_live;
        raw_once = k.cells.raw_once;
        raw_not_black = presence_each
            (λ j q. q.status ≡ status.Sync2
            → All (NoRawBlack s.colours s.rows) (own_in s.owns j).held)
            s.presences i p fits.raw_not_black k.cells.raw_not_black;
        pendings = presence_each
            (λ j q. (write : Pending) → (own_in s.owns j).pending ≡ Some write
            → IsPending q.status (own_in s.owns j) s.rows write) s.presences i p
            (no_pending new (own_of s i) s.rows fits.nothing_pending) k.cells.pendings;
      };
      tracing = record {
        cleared = k.tracing.cleared;
        anchor_marked = k.tracing.anchor_marked;
        traced = (λ now set cut. let old = k.tracing.traced now set cut in record {
          black = old.black;
          scanned = old.scanned;
          held = presence_each
              (λ j q. q.status ≡ status.Async
              → All (λ place. set place.cell ≡ false) (own_in s.owns j).held)
              s.presences i p
              (λ async. All-weaker (λ place. colour_of s place.cell ≢ White)
              (λ place. set place.cell ≡ false)
              (λ place dark. not_white_outside s set place.cell cut dark) (held_of s i)
              (fits.due now async))
              old.held;
          doubtful = old.doubtful;
        });
        clean_pass = k.tracing.clean_pass;
        pass_waits = k.tracing.pass_waits;
        scans = k.tracing.scans;
      };
      sweep = k.sweep;
    }

-- a mode is as stale to a control with the same stage and a position that is not less
pub stale_on : (own : Status) (mode : Option Control) (now later : Control)
    → later.stage ≡ now.stage
    → (now.stage ≡ stage.Sweep → now.position ≤ later.position) → IsStaleMode own mode now
    → IsStaleMode own mode later
stale_on own None now later same far k = tt
stale_on own (Some m) now later same far k = record {
  fits = subst (λ x. mode_fits own m.stage x ≡ true) (sym same) k.fits;
  position = (λ looked sweeps.
      let s = sym same ∙ sweeps in
      let a = k.position looked s in
      let b = far s in omega arith);
}
