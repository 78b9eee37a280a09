-- One mutator's own part changes, and nothing else does.
--
-- Its new held list has to be live, may have no raw cell that the old one had not, and no cell that
-- is cut off from a tracing collector. What it puts in doubt was in doubt before.
use Rattle.std.proofs.Common.{◌≡◌, ℕ, Bool, true, false, Some, sym, ◌∙◌}
use Rattle.std.specs.Prelude.{slice_set}
use Rattle.std.specs.List.{All}
use Rattle.cell_words.specs.declared.controls.Stage.TheVariants as stage
use Rattle.cell_words.specs.declared.presences.Status.TheVariants.{Async, Sync2}
use Rattle.cell_words.specs.declared.fields.Field.{Field}
use Rattle.cell_words.specs.declared.fields.Field.TheVariants.{Cell}
use Rattle.core_machine.specs.declared.pending.Pending.{Pending}
use Rattle.core_machine.specs.State.{State, field_in, presence_in, own_in, presence_of, own_of}
use Rattle.core_machine.specs.State.{held_of, field_of}
use Rattle.core_machine.specs.Words.{is_raw_kind}
use Rattle.core_machine.specs.Own.{Own, spent}
use Rattle.core_machine.specs.Places.{holds, unmark}
use Rattle.dlg_core.specs.Consistent.{IsConsistent, HoldsNothing, MarkStands, NoRawBlack}
use Rattle.dlg_core.specs.Consistent.{IsCutOff, IsNotDue}
use Rattle.dlg_core.specs.Doubt.{IsPending, IsInDoubt, IsDoubtful}
use Rattle.dlg_core.specs.Facts.{IsStaleMode, marks_count, live}
use Rattle.dlg_core.proofs.Each.{own_each}
use Rattle.std.proofs.lemmas.List.Elements.{All-map}
use Rattle.core_machine.specs.Operations.{is_in}
use Rattle.dlg_core.proofs.HeldLists.{none_marked, holds_unmark}

-- the state with another own part of mutator i
abbrev pub with_own : State → ℕ → Own → State
with_own s i own = record s { owns = slice_set s.owns i own }

-- what the new own part owes
pub record OwnFits (s : State) (i : ℕ) (own : Own) : Type 0 where
  pub mode : IsStaleMode (presence_of s i).status own.mode s.control
  pub out : (presence_of s i).inside ≡ false → HoldsNothing own
  pub marks : marks_count s.control.stage (presence_of s i).status ≡ true
      → All (MarkStands s.colours) own.held
  pub held_live : All
      (λ place. live s.colours s.control s.collector.sweep place.cell ≡ true) own.held
  pub raw : (c : ℕ) → is_raw_kind (field_in s.rows c 5) ≡ true → holds own.held c ≡ true
      → holds (own_of s i).held c ≡ true
  pub raw_not_black : (presence_of s i).status ≡ Sync2
      → All (NoRawBlack s.colours s.rows) own.held
  pub due : s.control.stage ≡ stage.Trace → (presence_of s i).status ≡ Async → (set : ℕ → Bool)
      → IsCutOff s.owns s.colours s.rows s.collector.scan set
      → IsNotDue s.presences s.owns s.colours s.rows s.collector.scan set
      → All (λ place. set place.cell ≡ false) own.held
  pub pendings : (write : Pending) → own.pending ≡ Some write
      → IsPending (presence_of s i).status own s.rows write
  pub doubts : (c f : ℕ) (x : Field) → field_of s c f ≡ x → IsInDoubt own c f x
      → IsInDoubt (own_of s i) c f x

pub own_kept : (s : State) (i : ℕ) (own : Own) → IsConsistent s → OwnFits s i own
    → IsConsistent (with_own s i own)
own_kept s i own k fits =
    let before : (c : ℕ) → is_raw_kind (field_in s.rows c 5) ≡ true → (j : ℕ)
    → holds (own_in (slice_set s.owns i own) j).held c ≡ true
    → holds (own_in s.owns j).held c ≡ true
    = (λ c raw j. own_each
    (λ n o. holds o.held c ≡ true → holds (own_in s.owns n).held c ≡ true) s.owns i own
    (fits.raw c raw) (λ n h. h) j) in
    let doubt_was : (c d f : ℕ) → field_of s c f ≡ Cell d
    → IsDoubtful (slice_set s.owns i own) c f (Cell d) → IsDoubtful s.owns c f (Cell d)
    = (λ c d f n is. record {
      mutator = is.mutator;
      doubt = own_each
          (λ j o. IsInDoubt o c f (Cell d) → IsInDoubt (own_in s.owns j) c f (Cell d))
          s.owns i own (fits.doubts c f (Cell d) n) (λ j h. h) is.mutator is.doubt;
    }) in
    record {
      mutators = record {
        statuses = k.mutators.statuses;
        answered = k.mutators.answered;
        modes = own_each
            (λ j o. IsStaleMode (presence_in s.presences j).status o.mode s.control) s.owns i own
            fits.mode k.mutators.modes;
        out = own_each
            (λ j o. (presence_in s.presences j).inside ≡ false → HoldsNothing o) s.owns i own
            fits.out k.mutators.out;
        marks = own_each
            (λ j o. marks_count s.control.stage (presence_in s.presences j).status ≡ true
            → All (MarkStands s.colours) o.held) s.owns i own
            fits.marks k.mutators.marks;
      };
      cells = record {
        anchor_box = k.cells.anchor_box;
        kinds = k.cells.kinds;
        blue_null = k.cells.blue_null;
        anchor_live = k.cells.anchor_live;
        held_live = own_each
            (λ j o. All
            (λ place. live s.colours s.control s.collector.sweep place.cell ≡ true) o.held) s.owns i
            own
            fits.held_live k.cells.held_live;
        child_live = k.cells.child_live;
        names_live = k.cells.names_live;
        raw_once = (λ a b c raw ha hb. k.cells.raw_once a b c raw (before c raw a ha)
            (before c raw b hb));
        raw_not_black = own_each (λ j o. (presence_in s.presences j).status ≡ Sync2
            → All (NoRawBlack s.colours s.rows) o.held)
            s.owns i own fits.raw_not_black k.cells.raw_not_black;
        pendings = own_each (λ j o. (write : Pending) → o.pending ≡ Some write
            → IsPending (presence_in s.presences j).status o s.rows write)
            s.owns i own fits.pendings k.cells.pendings;
      };
      tracing = record {
        cleared = k.tracing.cleared;
        anchor_marked = k.tracing.anchor_marked;
        traced = (λ now set cut.
            let before : IsCutOff s.owns s.colours s.rows s.collector.scan set = record {
              white = cut.white;
              child = cut.child;
              gray = (λ c d f gray unread n sure. cut.gray c d f gray unread n
                  (λ is. sure (doubt_was c d f n is)));
              outside = (λ c d f white out n sure. cut.outside c d f white out n
                  (λ is. sure (doubt_was c d f n is)));
            } in
            let old = k.tracing.traced now set before in record {
              black = old.black;
              scanned = old.scanned;
              held = own_each (λ j o. (presence_in s.presences j).status ≡ Async
                  → All (λ place. set place.cell ≡ false) o.held) s.owns i own
                  (λ async. fits.due now async set before old) old.held;
              doubtful = (λ c d f is n. old.doubtful c d f (doubt_was c d f n is) n);
            });
        clean_pass = k.tracing.clean_pass;
        pass_waits = k.tracing.pass_waits;
        scans = k.tracing.scans;
      };
      sweep = k.sweep;
    }

pub spent_fits : (s : State) (i : ℕ) → IsConsistent s → is_in s i ≡ true
    → OwnFits s i (spent (own_of s i))
spent_fits s i k inside = record {
  mode = tt;
  out = (λ o. absurd cc);
  marks = (λ m. none_marked s.colours (held_of s i));
  held_live = All-map (λ place. live s.colours s.control s.collector.sweep place.cell ≡ true) unmark
      (held_of s i) (k.cells.held_live i);
  raw = (λ c raw h. sym (holds_unmark (held_of s i) c) ∙ h);
  raw_not_black = (λ sync2. All-map (NoRawBlack s.colours s.rows) unmark (held_of s i)
      (k.cells.raw_not_black i sync2));
  due = (λ now async set cut old. All-map (λ place. set place.cell ≡ false) unmark (held_of s i)
      (old.held i async));
  pendings = (λ write e. absurd cc);
  doubts = (λ c f x n doubt. absurd (let e = doubt.begun in cc));
}
