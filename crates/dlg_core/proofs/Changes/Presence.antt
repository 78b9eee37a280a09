-- A mutator comes in, goes out or is over: its presence changes, and its status does not.
use Rattle.std.proofs.Common.{◌≡◌, ℕ, true, false, refl, sym, subst, ◌∙◌}
use Rattle.std.specs.Prelude.{slice_set}
use Rattle.cell_words.specs.declared.presences.Presence.{Presence}
use Rattle.core_machine.specs.State.{State, own_in, presence_of, own_of}
use Rattle.dlg_core.specs.Consistent.{IsConsistent, HoldsNothing}
use Rattle.dlg_core.specs.Doubt.{IsPending}
use Rattle.dlg_core.specs.Facts.{status_fits, IsStaleMode, marks_count}
use Rattle.dlg_core.proofs.Each.{presence_each}

-- the state with another presence of mutator i
abbrev pub with_presence : State → ℕ → Presence → State
with_presence s i p = record s { presences = slice_set s.presences i p }

-- with the same status for mutator i each status is the same
pub same_statuses : (s : State) (i : ℕ) (p : Presence) → p.status ≡ (presence_of s i).status
    → (j : ℕ)
    → (presence_of (with_presence s i p) j).status ≡ (presence_of s j).status
same_statuses s i p same j =
    presence_each (λ n q. q.status ≡ (presence_of s n).status) s.presences i p same (λ n. refl) j

pub presence_kept : (s : State) (i : ℕ) (p : Presence) → IsConsistent s
    → p.status ≡ (presence_of s i).status
    → (p.inside ≡ false → HoldsNothing (own_of s i))
    → IsConsistent (with_presence s i p)
presence_kept s i p k same out =
    let to = same_statuses s i p same in
    record {
      mutators = record {
        statuses = (λ j lt. subst (λ own. status_fits s.control.stage own ≡ true) (sym (to j))
            (k.mutators.statuses j lt));
        answered = (λ j lt now has. to j ∙ k.mutators.answered j lt now has);
        modes = (λ j. subst (λ own. IsStaleMode own (own_in s.owns j).mode s.control) (sym (to j))
            (k.mutators.modes j));
        out = presence_each
            (λ j q. q.inside ≡ false → HoldsNothing (own_in s.owns j))
            s.presences i p out k.mutators.out;
        marks = (λ j m. k.mutators.marks j
            (subst (λ own. marks_count s.control.stage own ≡ true) (to j) m));
      };
      cells = record {
        anchor_box = k.cells.anchor_box;
        kinds = k.cells.kinds;
        blue_null = k.cells.blue_null;
        anchor_live = k.cells.anchor_live;
        held_live = k.cells.held_live;
        child_live = k.cells.child_live;
        names_live = k.cells.names_live;
        raw_once = k.cells.raw_once;
        raw_not_black = (λ j sync2. k.cells.raw_not_black j (sym (to j) ∙ sync2));
        pendings = (λ j write e. subst (λ own. IsPending own (own_in s.owns j) s.rows write)
            (sym (to j)) (k.cells.pendings j write e));
      };
      tracing = record {
        cleared = k.tracing.cleared;
        anchor_marked = k.tracing.anchor_marked;
        traced = (λ now set cut. let old = k.tracing.traced now set cut in record {
          black = old.black;
          scanned = old.scanned;
          held = (λ j async. old.held j (sym (to j) ∙ async));
          doubtful = old.doubtful;
        });
        clean_pass = k.tracing.clean_pass;
        pass_waits = k.tracing.pass_waits;
        scans = k.tracing.scans;
      };
      sweep = k.sweep;
    }
